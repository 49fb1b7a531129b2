-- Each turn writes one part.
use Rattle.std.proofs.Common.{◌≡◌, ◌*◌, ◌/◌, ◌<◌, [], length, get_or, take, drop, ap, ◌∙◌, arith}
use Rattle.grid.proofs.Parts.{chunk_at, parted_more, joined_parts}
use Rattle.grid.proofs.root_pages.write_root_pages.Goals as goal

pub loop-page-preserved : goal.loop-page-preserved
loop-page-preserved g c =
    let bytes = c.args.bytes.now in
    let n = c.loop-page.page in
    let inside : n < length bytes / 512 = omega (arith, c.loop-page-test.true, c.as_chunks.ensures.front_len) in
    let part : get_or c.as_chunks.result.0.now n [] ≡ take 512 (drop (512 * n) bytes) = ap (λ us. get_or us n []) c.as_chunks.ensures.front ∙ chunk_at (length bytes / 512) n bytes [] inside in
    parted_more (g.S.PageStore.pages c.args.store.now) (g.S.PageStore.pages c.loop-page.store) (g.S.PageStore.pages c.write.new.self) bytes (get_or c.as_chunks.result.0.now n []) n
    c.write.result (omega (arith, c.requires, inside, c.told-bytes)) part c.loop-page.invariant c.write.ensures.stored

pub returns : goal.returns
returns g c =
    let p = c.loop-page.invariant in
    record {
      as_many = p.as_many;
      root = joined_parts 8 (g.S.PageStore.pages c.loop-page.store) c.args.bytes.now (omega (arith, c.requires, p.as_many)) c.told-bytes (λ j l. p.here j (omega (arith, c.loop-page-test.false, c.as_chunks.ensures.front_len, c.told-bytes)));
      rest = λ j l. p.rest j (omega (arith, c.loop-page.auto.page-end, c.as_chunks.ensures.front_len, c.told-bytes));
    }
