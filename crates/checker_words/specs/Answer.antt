-- What a run's answer says: its test, and a count of links that is at most its length.
use Rattle.std.specs.Prelude.{◌≡◌, refl, Bool, true, false, cond, List, [], ◌∷◌, ℕ, ◌≤◌, eqb, length}
use Rattle.std.proofs.Common.{sym, ◌∙◌, arith}
use Rattle.pool.specs.Sound.{refersb}
use Rattle.checker_words.specs.Words.{pass_all, link_count, count_all, run_of}
use Rattle.std.specs.Prelude.{None, Option, Some}

-- a word counts for 1 at most
pub count_most : (y w : ℕ) → link_count y w ≤ 1
unfolding link_count
count_most y w = go (eqb y 0) (refersb y w)
  where
    go : (a b : Bool) → cond a 0 (cond b 1 0) ≤ 1
    go true b = omega arith
    go false true = omega arith
    go false false = omega arith

pub count-below : (y : ℕ) (ws : List ℕ) → count_all y ws ≤ length ws
unfolding count_all
count-below y [] = omega arith
count-below y (w ∷ ws) = let a = count_most y w in let r = count-below y ws in omega arith

-- what a run's answer says of its test
pub passed_says : (b : Bool) (x y : ℕ) → Some y ≡ cond b (Some x) None → (b ≡ true) × (y ≡ x)
passed_says true x y e = (refl, cc)
passed_says false x y e = let z : ◌≡◌ {A = ℕ} 0 1 = cc in absurd (omega arith)

pub failed_says : (b : Bool) (x : ℕ) → None ≡ cond b (Some x) None → b ≡ false
failed_says true x e = let z : ◌≡◌ {A = ℕ} 0 1 = cc in absurd (omega arith)
failed_says false x e = refl

module _ (set y : ℕ) (ws : List ℕ) {r : Option ℕ} (is : r ≡ run_of set y ws) where
  pub run_passed : (count : ℕ) → r ≡ Some count → (pass_all set y ws ≡ true) × (count ≡ count_all y ws)
  unfolding run_of
  run_passed count e = passed_says (pass_all set y ws) (count_all y ws) count (sym e ∙ is)

  pub run_failed : r ≡ None → pass_all set y ws ≡ false
  unfolding run_of
  run_failed e = failed_says (pass_all set y ws) (count_all y ws) (sym e ∙ is)
