-- `scan_run`: each way through the code by its law.
use mathlib.Core.Path.{◌≡◌, refl, sym, ap, ◌∙◌}
use Prim.Native.Nat.{ℕ}
use native.Mathlib.Omega.{arith}
use Rattle.pool.specs.Number.{level_of}
use Rattle.checker_words.specs.Words.{run_of, free_run, pages_run, links_run, allowed_at}
use Rattle.checker_words.specs.Mask.{free_run_lem, pages_run_lem, links_run_lem}
use Rattle.checker_words.proofs.scan_run.Goals as goal

pub returns-then-number-eq0 : goal.returns-then-number-eq0
unfolding free_run
returns-then-number-eq0 c =
    let a = c.args in
    c.scan_free.ensures ∙ sym (ap (λ (y : ℕ). run_of a.set y a.run.now) c.if-number-eq0.true ∙ free_run_lem a.set a.run.now)

pub returns-then-level-eq-LEAF_LEVEL : goal.returns-then-level-eq-LEAF_LEVEL
unfolding pages_run
returns-then-level-eq-LEAF_LEVEL c =
    let a = c.args in
    let level = c.if-level-eq-LEAF_LEVEL.true in
    let allowed : c.allowed_at-allowed.result ≡ allowed_at a.set 3 =
    c.allowed_at-allowed.ensures ∙ ap (allowed_at a.set) level in
    c.scan_pages.ensures ∙ ap (λ (m : ℕ). pages_run m a.run.now) allowed
    ∙ sym (pages_run_lem a.set a.number c.requires (omega arith) level a.run.now
    (λ i h. (c.type_inv.run i).fits))

pub returns : goal.returns
unfolding links_run
returns c =
    let a = c.args in
    let level = level_of a.number in
    c.scan_links.ensures ∙ ap (λ (m : ℕ). links_run m a.run.now) c.allowed_at-allowed.ensures
    ∙ sym (links_run_lem a.set a.number level c.requires (omega arith) refl (omega arith)
    a.run.now (λ i h. (c.type_inv.run i).fits))
