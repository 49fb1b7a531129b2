-- From what was read follows what find does.
use Rattle.std.proofs.Common.{◌≡◌, ℕ, List, [], get_or, Ok, Err, Result, Option, rules, sym, ap, ◌∙◌, subst, inl, inr}
use Rattle.promise.specs.Calls.{Finds}
use Rattle.promise.specs.declared.refusal.Refusal.{Refusal}
use Rattle.grid.specs.Grids.{state}
use Rattle.grid.specs.Loads.{BucketLoaded}
use Rattle.grid.proofs.OfFinds.{bad_keys, broken_directory, broken_bucket, sound_bucket}
use Rattle.grid.proofs.grid.Grid.find.Goals as goal

pub returns-clause-finds : goal.returns-clause-finds
returns-clause-finds g c =
    let self = c.args.self.now in
    let m = g.K.Kind.meaning self.kind in
    let law = g.met.K.Kind.lawful self.kind in
    let ps = g.S.PageStore.pages c.args.store.now in
    let st = state ps self in
    let mem = c.in_ok-memory.memory.now in
    let made = c.in_ok-memory.ensures ps (sym c.count.ensures.counted) in
    let ks = c.args.keys.now in
    let old = c.args.buffer.now in
    let one = c.image_laws_stand.ensures.directories in
    let leaf = c.in_ok-leaf.leaf in
    let found = c.in_ok-leaf.ensures.located in
    let same = c.in_ok-leaf.ensures.kept in
    let after = state (g.S.PageStore.pages c.load_bucket.new.store) self in
    let stays : after ≡ st = ap (λ (qs : List (List ℕ)). state qs self) (c.in_ok-load_bucket.ensures.kept ∙ same) in
    let loaded = subst (λ (qs : List (List ℕ)). BucketLoaded {U = Unit {0}} m leaf (get_or qs leaf.page []) c.load_bucket.new.page (Ok tt)) same c.in_ok-load_bucket.ensures.loaded in
    sound_bucket m law st after stays mem made ks old found.0 one found.1.0 found.1.1 leaf found.1.2 c.place_of.result c.load_bucket.new.page loaded.0 loaded.1 c.place_of.ensures.listed

pub returns-in_err-load_bucket-clause-finds : goal.returns-in_err-load_bucket-clause-finds
returns-in_err-load_bucket-clause-finds g c =
    let self = c.args.self.now in
    let m = g.K.Kind.meaning self.kind in
    let law = g.met.K.Kind.lawful self.kind in
    let ps = g.S.PageStore.pages c.args.store.now in
    let st = state ps self in
    let mem = c.in_ok-memory.memory.now in
    let made = c.in_ok-memory.ensures ps (sym c.count.ensures.counted) in
    let ks = c.args.keys.now in
    let old = c.args.buffer.now in
    let one = c.image_laws_stand.ensures.directories in
    let leaf = c.in_ok-leaf.leaf in
    let found = c.in_ok-leaf.ensures.located in
    let same = c.in_ok-leaf.ensures.kept in
    let after = state (g.S.PageStore.pages c.load_bucket.new.store) self in
    let stays : after ≡ st = ap (λ (qs : List (List ℕ)). state qs self) (c.in_err-load_bucket.ensures.kept ∙ same) in
    let bad = subst (λ (qs : List (List ℕ)). BucketLoaded {U = Unit {0}} m leaf (get_or qs leaf.page []) c.load_bucket.new.page (Err c.in_err-load_bucket.field-0.0)) same c.in_err-load_bucket.ensures.loaded in
    let refused : ◌≡◌ {A = Result (Option ℕ) Refusal} c.from_residual-in_err-load_bucket.result (Err c.in_err-load_bucket.field-0.0) = search rules in
    subst (λ (r : Result (Option ℕ) Refusal). Finds m ks st old r old after) (sym refused) (subst (λ (x : Refusal). Finds m ks st old (Err x) old after) (sym bad.1) (broken_bucket m law st after stays mem made ks old found.0 one found.1.0 found.1.1 leaf found.1.2 bad.2))

pub returns-in_err-leaf-clause-finds : goal.returns-in_err-leaf-clause-finds
returns-in_err-leaf-clause-finds g c =
    let self = c.args.self.now in
    let m = g.K.Kind.meaning self.kind in
    let law = g.met.K.Kind.lawful self.kind in
    let ps = g.S.PageStore.pages c.args.store.now in
    let st = state ps self in
    let mem = c.in_ok-memory.memory.now in
    let made = c.in_ok-memory.ensures ps (sym c.count.ensures.counted) in
    let ks = c.args.keys.now in
    let old = c.args.buffer.now in
    let e = c.in_err-leaf.ensures.located in
    let after = state (g.S.PageStore.pages c.locate_leaf.new.store) self in
    let stays : after ≡ st = ap (λ (qs : List (List ℕ)). state qs self) c.in_err-leaf.ensures.kept in
    let refused : ◌≡◌ {A = Result (Option ℕ) Refusal} c.from_residual-in_err-leaf.result (Err c.in_err-leaf.field-0.0) = search rules in
    subst (λ (r : Result (Option ℕ) Refusal). Finds m ks st old r old after) (sym refused) (elim e [
      | inl bad ↦ subst (λ (x : Refusal). Finds m ks st old (Err x) old after) (sym bad.0) (bad_keys m law st after stays mem made ks old bad.1)
      | inr bad ↦ subst (λ (x : Refusal). Finds m ks st old (Err x) old after) (sym bad.0) (broken_directory m law st after stays mem made ks old bad.1 bad.2)
    ])
