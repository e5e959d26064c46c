-- Theorems about the definitions of specs/Order.
use Rattle.std.specs.Prelude.{◌≡◌, ◌↔◌, ℕ, suc, ◌+◌, ◌≤◌}
use Rattle.std.proofs.Math.Path.{refl, ap, ap₂}
use Rattle.std.proofs.Common.{sym, subst, ◌∙◌}
use mathlib.Core.List.{List, [], ◌∷◌, Permᴰ}
use native.Mathlib.Omega.{arith}
use Rattle.laws.specs.Test.{by_bool}
use Rattle.theory_forest.specs.Tree.{Tree}
use Rattle.theory_forest.specs.Nodes.{nodes}
use Rattle.theory_tree.specs.Page.{In}
use Rattle.theory_tree.specs.Walk.{Seen, seen}
use Rattle.theory_tree.specs.Shown.{FineTable}
use Rattle.theory_tree.specs.Rules.{Map, Given}
use Rattle.theory_tree.specs.After.{covers, after, covers_yes, after_in, after-out}
use Rattle.theory_tree.specs.Commute.{Apart, apart_flip}
use Rattle.theory_tree.specs.Root.{map_tree}
use Rattle.theory_tree.proofs.Root.{map_fine, map-seen, map-count, valid_grows, map_commute}
use Rattle.theory_tree.specs.Order.{Reorders, Each, Pairwise, ValidMap, each_reorders, pairwise_reorders, afters, run, RoomFor, made_all}

after_swap : (m n : Map) → Apart m n → (page : ℕ) (old : Seen) → after m page (after n page old) ≡ after n page (after m page old)
after_swap m n apart page old = by_bool (covers m page)
    (λ p. by_bool (covers n page)
    (λ q. let x = covers_yes m page p in let y = covers_yes n page q in absurd (apart page x.0 x.1 y.0 y.1))
    (λ q. after_in m page (after n page old) p ∙ sym (after-out n page (after m page old) q ∙ after_in m page old p)))
    (λ p. after-out m page (after n page old) p ∙ ap (after n page) (sym (after-out m page old p)))

afters_reorders : {ms ns : List Map} → Reorders ms ns → Pairwise ms → (page : ℕ) (old : Seen) → afters ms page old ≡ afters ns page old
unfolding afters
afters_reorders Permᴰ.nil h page old = refl
afters_reorders (Permᴰ.cons {a = a} {l₂ = k} e d) h page old =
    afters_reorders d h.1 page (after a page old) ∙ ap (λ (m : Map). afters k page (after m page old)) e
afters_reorders (Permᴰ.swap {a = a} {b = b} {l = k} p q) h page old =
    ap (afters k page) (after_swap b a (apart_flip a b h.0.0) page old)
    ∙ ap₂ (λ (m n : Map). afters k page (after m page (after n page old))) p q
afters_reorders (Permᴰ.trans c d) h page old = afters_reorders c h page old ∙ afters_reorders d (pairwise_reorders c h) page old

-- ---- a list of calls on a root's tree

module _ (depth r : ℕ) where
  -- ---- with VALID: every order leaves the same tree

  pub run_reorders : {ms ns : List Map} → Reorders ms ns → Pairwise ms → Each ValidMap ms → (t : Tree) → FineTable depth t
      → run depth r ms t ≡ run depth r ns t
  unfolding run
  run_reorders Permᴰ.nil h v t fine = refl
  run_reorders (Permᴰ.cons {a = a} {l₂ = k} e d) h v t fine =
      run_reorders d h.1 v.1 (map_tree depth r a t) (map_fine depth r a v.0.given t fine)
      ∙ ap (λ (m : Map). (run depth r) k (map_tree depth r m t)) e
  run_reorders (Permᴰ.swap {a = a} {b = b} {l = k} p q) h v t fine =
      ap (run depth r k) (map_commute depth r b a (apart_flip a b h.0.0) v.1.0.valid v.0.valid t fine)
      ∙ ap₂ (λ (m n : Map). (run depth r) k (map_tree depth r m (map_tree depth r n t))) p q
  run_reorders (Permᴰ.trans c d) h v t fine =
      run_reorders c h v t fine ∙ run_reorders d (pairwise_reorders c h) (each_reorders ValidMap c v) t fine

  -- VALID maps only add tables, so that a list of them finds room exactly if its last tree does
  run_grows : (ms : List Map) → Each ValidMap ms → (t : Tree) → nodes t ≤ nodes (run depth r ms t)
  unfolding run
  run_grows [] v t = omega arith
  run_grows (m ∷ ms) v t = omega (arith, run_grows ms v.1 (map_tree depth r m t), valid_grows depth r m v.0.valid t)

  pub room_if : (n : ℕ) (ms : List Map) → Each ValidMap ms → (t : Tree) → nodes t ≤ n
      → RoomFor depth r n ms t ↔ (nodes (run depth r ms t) ≤ n)
  unfolding run
  room_if n [] v t h = (λ room. h, λ fits. tt)
  room_if n (m ∷ ms) v t h = (
    λ room. (room_if n ms v.1 (map_tree depth r m t) (omega (arith, valid_grows depth r m v.0.valid t, room.0))).0 room.1,
    λ fits. (
      omega (arith, valid_grows depth r m v.0.valid t, run_grows ms v.1 (map_tree depth r m t)),
      (room_if n ms v.1 (map_tree depth r m t) (omega (arith, run_grows ms v.1 (map_tree depth r m t)))).1 fits,
    ),
  )

  pub room_reorders : (n : ℕ) {ms ns : List Map} → Reorders ms ns → Pairwise ms → Each ValidMap ms → (t : Tree) → FineTable depth t
      → nodes t ≤ n
      → RoomFor depth r n ms t → RoomFor depth r n ns t
  room_reorders n {ms} {ns} d h v t fine k room =
      (room_if n ns (each_reorders ValidMap d v) t k).1
      (subst (λ (u : Tree). nodes u ≤ n) (run_reorders d h v t fine) ((room_if n ms v t k).0 room))

  -- ---- with and without VALID: what each page shows in the end, in any order

  pub run-seen : (ms : List Map) → Each Given ms → (t : Tree) → FineTable depth t → (page : ℕ) → In (suc depth) r page
      → seen (suc depth) (run depth r ms t) page ≡ afters ms page (seen (suc depth) t page)
  unfolding run afters
  run-seen [] g t fine page at = refl
  run-seen (m ∷ ms) g t fine page at =
      run-seen ms g.1 (map_tree depth r m t) (map_fine depth r m g.0 t fine) page at
      ∙ ap (afters ms page) (map-seen depth r m g.0 t fine page at)

  pub seen_reorders : {ms ns : List Map} → Reorders ms ns → Pairwise ms → Each Given ms → (t : Tree) → FineTable depth t → (page : ℕ)
      → In (suc depth) r page
      → seen (suc depth) (run depth r ms t) page ≡ seen (suc depth) (run depth r ns t) page
  seen_reorders {ms} {ns} d h g t fine page at =
      run-seen ms g t fine page at ∙ afters_reorders d h page (seen (suc depth) t page)
      ∙ sym (run-seen ns (each_reorders Given d g) t fine page at)

  -- where the tables that a list makes are free at entry, no call is refused 9
  pub room_enough : (n : ℕ) (ms : List Map) (t : Tree) → nodes t + made_all depth r ms t ≤ n → RoomFor depth r n ms t
  unfolding made_all
  room_enough n [] t h = tt
  room_enough n (m ∷ ms) t h = (omega arith, room_enough n ms (map_tree depth r m t) (omega (arith, map-count depth r m t)))
