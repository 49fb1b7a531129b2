-- Each key is checked.
use Rattle.std.proofs.Common.{ℕ, ◌<◌, refl, arith, rules}
use Rattle.std.proofs.lemmas.Bool.Decides.{Decides-like}
use Rattle.std.proofs.lemmas.Iterator.{YieldsList-from_range}
use Rattle.images.specs.Checking.{HasLawful, KeyLawful}
use Rattle.images.proofs.Every.{all_below}
use Rattle.images.proofs.held_image.HeldImage.has_lawful_keys.Goals as goal

pub returns : goal.returns
returns g c =
    let b = c.args.inner.now in
    let d = c.args.self.now in
    let n = d.keys in
    let P : ℕ → Type 0 = HasLawful b d in
    let all = all_below _ _ c.all.result P c.all.ensures.ran (λ x b q k. search rules) n (YieldsList-from_range 0 n n refl (omega arith)) in
    Decides-like c.all.result (λ (w : (i : ℕ) → i < n → P i). λ i l. (w i l).lawful) (λ (w : (i : ℕ) → i < n → KeyLawful b d i). λ i l. record { has = (c.requires, l); lawful = w i l }) all
