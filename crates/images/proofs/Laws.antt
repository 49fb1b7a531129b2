-- The laws of images, from the lemmas.
use Rattle.std.proofs.Common.{◌<◌, ◌≤◌, sym, ◌∙◌, subst, arith}
use Rattle.boxes.specs.Cuts.{In}
use Rattle.boxes.specs.Points.{path, lows}
use Rattle.boxes.proofs.Spans.{lies_around}
use Rattle.boxes.proofs.Levels.{around_front_take}
use Rattle.images.specs.Directory.{tile_at, intervals, inner}
use Rattle.images.specs.Cells.{corner}
use Rattle.images.specs.Tilings.{Piece, scales_of, built, piece_at, pieces}
use Rattle.images.specs.Laws.{CellsStand, BuiltStands, PiecesStand, SameStands, ChecksStand}
use Rattle.images.proofs.Places.{position_same, same_position, place_below, place_same, same_place, place_corner}
use Rattle.images.proofs.Scales.{listed_in}
use Rattle.images.proofs.Boxing.{corner_lies, corner_point}
use Rattle.images.proofs.Built.{built_at, built_lawful}
use Rattle.images.proofs.Pieces.{length_box_at, pieces_tile, piece_listed, lawful_scaled}
use Rattle.images.proofs.Checks.{checked_lawful}
use Rattle.images.proofs.Exact.{lawful_checked}
use Rattle.images.proofs.Unique.{lawful_same}

pub cells_stand : CellsStand
cells_stand = (
  (λ l es u. record { sides = λ x y. position_same l x y es u; same = λ x y. same_position x y es }),
  (λ es. record { below = place_below es; apart = place_same es; same = λ ps qs lp lq s. same_place es ps qs 0 lp lq s; corners = λ ls n l u k. place_corner ls es n l u k }),
  λ ws ord h b es s n k. (corner_point ws ord h b es s n k, corner_lies ws ord h b es s n k),
)

pub built_stands : BuiltStands
built_stands ws ord h b short ts t n x y pages fi fc = (
  built_lawful ws ord h b ts t short n x y pages fi fc,
  λ p pp w u iu v. built_at ws ord h b ts t short p pp w u iu (lies_around u.box ws ord p h (t.levels u iu) pp v),
)

pub same_stands : SameStands
same_stands ws ord h b short n m x y u v a c la lc same = lawful_same ws ord h b short n m x y u v a c la lc same

pub checks_stand : ChecksStand
checks_stand ws ord h b short n x y img = ((λ c. checked_lawful ws ord h b n x y img c short), (λ l. lawful_checked ws ord h b short n x y img l))

pub pieces_stand : PiecesStand
pieces_stand ws ord h b short n x y img l =
    let t = pieces_tile ws ord h b short n x y img l in
    let ts = pieces ws ord b img in
    let pages : (u : Piece) → In u ts → (8 ≤ u.page) × (u.page < n) = λ u iu.
    let r = listed_in (intervals img.ends) (λ j. piece_at ws ord img (corner (lows ws ord b) img.ends j)) u iu in
    let s = lawful_scaled ws ord h b short n x y img l in
    subst (λ (z : Piece). (8 ≤ z.page) × (z.page < n)) (sym r.2)
    (l.pages (corner (lows ws ord b) img.ends r.0) (corner_point ws ord h b img.ends s r.0 r.1) (corner_lies ws ord h b img.ends s r.0 r.1)) in
    let bl = built_lawful ws ord h b ts t short n (inner (scales_of ws ord b ts)) (intervals (scales_of ws ord b ts)) pages (omega arith) (omega arith) in (
      t,
      (λ p pp w. piece_listed ws ord h b short n x y img l p pp w),
      lawful_same ws ord h b short n n (inner (scales_of ws ord b ts)) (intervals (scales_of ws ord b ts)) x y (built ws ord b ts) img bl l
          (λ p pp w.
          let d = (l.nested p pp w).1 in
          let e = length_box_at ws ord p (tile_at img p).level d in
          built_at ws ord h b ts t short p pp w (piece_at ws ord img p) (piece_listed ws ord h b short n x y img l p pp w) (around_front_take (tile_at img p).level (path ws ord p))
          ∙ (λ i. record { page = (tile_at img p).page; level = e i })),
    )
