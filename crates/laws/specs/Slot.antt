-- A loop over slots as a fold: `iter f n s` is f at 0, then at 1, .., then at n - 1.
use Rattle.std.specs.Prelude.{◌≡◌, refl, ℕ, zero, suc, ◌+◌}
use Rattle.std.proofs.Common.{sym, ap, ◌∙◌, add-one}

unfoldable pub iter {ℓ} : {S : Type ℓ} → (ℕ → S → S) → ℕ → S → S
iter f zero s = s
iter f (suc i) s = f i (iter f i s)

pub iter_none {ℓ} : {S : Type ℓ} (f : ℕ → S → S) (s : S) → s ≡ iter f 0 s
unfolding iter
iter_none f s = refl

pub iter-more {ℓ} : {S : Type ℓ} (f : ℕ → S → S) (i : ℕ) (s : S) → iter f (i + 1) s ≡ f i (iter f i s)
unfolding iter
iter-more f i s = rw add-one

-- a loop's invariant after one step more: t is the fold over the first i slots of s, and u is t after slot i
pub iter-step {ℓ} : {S : Type ℓ} (f : ℕ → S → S) (i : ℕ) (s : S) {t u : S} → t ≡ iter f i s → u ≡ f i t → u ≡ iter f (i + 1) s
iter-step f i s e q = q ∙ ap (f i) e ∙ sym (iter-more f i s)
