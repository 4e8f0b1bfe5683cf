-- A task's row, word by word.
-- Assumes nothing.
use Rattle.std.proofs.Common.{◌≡◌, ℕ, ◌+◌, ◌*◌, ◌%◌, ◌<◌, ◌≤◌, true, false, eqb, List, [], ◌∷◌, length, drop, set, sym, refl, ap, ◌∙◌, inl, inr, arith}
use Rattle.std.proofs.lemmas.List.{get_or-set_same, get_or-take, get_or-drop}
use Rattle.std.proofs.lemmas.Bool.{cases_Bool}
use Rattle.model.specs.State.{is_waiting}
use Rattle.jobs.specs.Layout.{home_words_lem}
use Rattle.jobs.specs.Rows.{at, Only}
use Rattle.jobs.specs.Tables.{phase_from_lem, task_slot, task_row_lem, task_at, TaskPut}
use Rattle.jobs.specs.Changes.{end_each, place_each}
use Rattle.jobs.proofs.Words.{set_only, set_row, only_wide, only_then, only_none, row_length}
use Rattle.jobs.proofs.Frames.{put_task}

pub waits : (w ready : ℕ) → eqb w 0 ≡ true → is_waiting (phase_from_lem w ready) ≡ true
waits w ready e = rw e

pub waits_not : (w ready : ℕ) → eqb w 0 ≡ false → is_waiting (phase_from_lem w ready) ≡ false
waits_not w ready e = elim (cases_Bool (eqb w 1)) [ inl p ↦ elim (cases_Bool (eqb ready 0)) [ inl q ↦ rw (e, p, q) | inr q ↦ rw (e, p, q) ] | inr p ↦ rw (e, p) ]

end_slot : (r : List ℕ) (ready : ℕ) → 4 ≤ length r → eqb (at r 1) 0 ≡ false → task_slot (set r 1 2) ready ≡ end_each (task_slot r ready)
end_slot [] ready h e = absurd (omega (arith, h))
end_slot (a ∷ []) ready h e = absurd (omega (arith, h))
end_slot (a ∷ b ∷ []) ready h e = absurd (omega (arith, h))
end_slot (a ∷ b ∷ c ∷ []) ready h e = absurd (omega (arith, h))
end_slot (a ∷ b ∷ c ∷ d ∷ r) ready h e =
    elim (cases_Bool (eqb a 0)) [ inl p ↦ rw p | inr p ↦ rw (p, waits_not b ready e, e) ]

gone_slot : (r : List ℕ) (ready : ℕ) → 4 ≤ length r → task_slot (set r 0 0) ready ≡ []
gone_slot [] ready h = absurd (omega (arith, h))
gone_slot (a ∷ r) ready h = refl

gone_ends : (r : List ℕ) (ready : ℕ) → eqb (at r 1) 0 ≡ true → [] ≡ end_each (task_slot r ready)
gone_ends r ready e = elim (cases_Bool (eqb (at r 0) 0)) [ inl p ↦ rw p | inr p ↦ rw (p, waits (at r 1) ready e) ]

place_slot : (r : List ℕ) (ready m l : ℕ) → 4 ≤ length r → m < 65536 → task_slot (set (set (set r 1 1) 2 m) 3 l) 0 ≡ place_each m l (task_slot r ready)
place_slot [] ready m l h q = absurd (omega (arith, h))
place_slot (a ∷ []) ready m l h q = absurd (omega (arith, h))
place_slot (a ∷ b ∷ []) ready m l h q = absurd (omega (arith, h))
place_slot (a ∷ b ∷ c ∷ []) ready m l h q = absurd (omega (arith, h))
place_slot (a ∷ b ∷ c ∷ d ∷ r) ready m l h q =
    let e : m % 65536 ≡ m = omega arith in elim (cases_Bool (eqb a 0)) [ inl p ↦ rw p | inr p ↦ rw (p, e) ]

module _ (home : List ℕ) (i : ℕ) (fits : home_words_lem ≤ length home) (within : i < 2048) where
  o : ℕ
  o = 12808 + i * 27

  long : 4 ≤ length (task_row_lem home i)
  long = let e : length (task_row_lem home i) ≡ 27 = row_length 27 (12808 + i * 27) home (omega arith) in omega arith

  word : (k v : ℕ) (ws : List ℕ) → k < 27 → Only (12808 + i * 27) (12808 + i * 27 + 27) (set ws (12808 + i * 27 + k) v) ws
  word k v ws h = only_wide (12808 + i * 27 + k) (12808 + i * 27 + k + 1) (12808 + i * 27) (12808 + i * 27 + 27) _ _ (omega arith) (omega arith) (set_only (12808 + i * 27 + k) v ws)

  first : Only (12808 + i * 27) (12808 + i * 27 + 27) (set home (12808 + i * 27) 0) home
  first = only_wide (12808 + i * 27) (12808 + i * 27 + 1) (12808 + i * 27) (12808 + i * 27 + 27) _ _ (omega arith) (omega arith) (set_only (12808 + i * 27) 0 home)

  zero_word : set home (12808 + i * 27 + 0) 0 ≡ set home (12808 + i * 27) 0
  zero_word = let e : 12808 + i * 27 + 0 ≡ 12808 + i * 27 = omega arith in ap (λ (k : ℕ). set home k 0) e

  gone_row : task_row_lem (set home (12808 + i * 27) 0) i ≡ set (task_row_lem home i) 0 0
  gone_row = ap (λ (ws : List ℕ). task_row_lem ws i) (sym zero_word) ∙ set_row 27 (12808 + i * 27) 0 0 home

  pub removes : (live : List ℕ) → TaskPut i [] home live (set home (12808 + i * 27) 0) live
  removes live = put_task home live _ live i fits within [] first (only_none _ _ live) (ap (λ (r : List ℕ). task_slot r (at live (256 + i))) gone_row ∙ gone_slot (task_row_lem home i) (at live (256 + i)) long)

  pub ends_gone : eqb (at (task_row_lem home i) 1) 0 ≡ true → (live : List ℕ) → TaskPut i (end_each (task_at home live i)) home live (set home (12808 + i * 27) 0) live
  ends_gone e live = put_task home live _ live i fits within _ first (only_none _ _ live) (ap (λ (r : List ℕ). task_slot r (at live (256 + i))) gone_row ∙ gone_slot (task_row_lem home i) (at live (256 + i)) long ∙ gone_ends (task_row_lem home i) (at live (256 + i)) e)

  pub ends : eqb (at (task_row_lem home i) 1) 0 ≡ false → (live : List ℕ) → TaskPut i (end_each (task_at home live i)) home live (set home (12808 + i * 27 + 1) 2) live
  ends e live =
      put_task home live _ live i fits within _ (word 1 2 home (omega arith)) (only_none _ _ live)
      (ap (λ (r : List ℕ). task_slot r (at live (256 + i))) (set_row 27 (12808 + i * 27) 1 2 home) ∙ end_slot (task_row_lem home i) (at live (256 + i)) long e)

  pub places : (live : List ℕ) (m l : ℕ) → m < 65536 → 256 + i < length live →
      TaskPut i (place_each m l (task_at home live i)) home live (set (set (set home (12808 + i * 27 + 1) 1) (12808 + i * 27 + 2) m) (12808 + i * 27 + 3) l) (set live (256 + i) 0)
  places live m l q w =
      let row : task_row_lem (set (set (set home (12808 + i * 27 + 1) 1) (12808 + i * 27 + 2) m) (12808 + i * 27 + 3) l) i ≡ set (set (set (task_row_lem home i) 1 1) 2 m) 3 l = set_row 27 (12808 + i * 27) 3 l _ ∙ ap (λ (r : List ℕ). set r 3 l) (set_row 27 (12808 + i * 27) 2 m _ ∙ ap (λ (r : List ℕ). set r 2 m) (set_row 27 (12808 + i * 27) 1 1 home)) in
      put_task home live _ _ i fits within _
      (only_then _ _ _ _ _ (word 3 l _ (omega arith)) (only_then _ _ _ _ _ (word 2 m _ (omega arith)) (word 1 1 home (omega arith))))
      (set_only (256 + i) 0 live)
      (ap (λ (r : List ℕ). task_slot r (at (set live (256 + i) 0) (256 + i))) row ∙ ap (task_slot (set (set (set (task_row_lem home i) 1 1) 2 m) 3 l)) (get_or-set_same live (256 + i) 0 0 w) ∙ place_slot (task_row_lem home i) (at live (256 + i)) m l long q)

-- word k of row i
pub word_at : (home : List ℕ) (i k : ℕ) → k < 27 → at (task_row_lem home i) k ≡ at home (12808 + i * 27 + k)
word_at home i k h = get_or-take 27 (drop (12808 + i * 27) home) k 0 h ∙ get_or-drop (12808 + i * 27) home k 0
