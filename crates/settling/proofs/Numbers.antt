-- Rising numbers, row by row.
-- Assumes nothing.
use Rattle.std.proofs.Common.{◌≡◌, ℕ, ◌+◌, ◌<◌, ◌≤◌, List, [], ◌∷◌, ◌++◌, sym, ap, ◌∙◌, subst, inl, inr, arith}
use Rattle.std.proofs.lemmas.List.{append-nil}
use Rattle.model.specs.State as s
use Rattle.model.proofs.Lists.Members.{In, in_end}
use Rattle.model.proofs.Tasks.ByNumber.{Rising, rising_end}
use Rattle.jobs.specs.Rows.{at, span}
use Rattle.jobs.specs.Tables.{task_at, task_row_lem, task_rows_lem, task_from, state_of}
use Rattle.jobs.proofs.Spans.{span_none, span_more}
use Rattle.settling.specs.Scan.{Numbered}
use Rattle.settling.proofs.Tallies.{row_full, row_hole}

pub record Risen (home live : List ℕ) (i last : ℕ) : Type 0 where
  pub rises : Rising 0 (span (task_at home live) 0 i)
  pub low : (t : s.Task) → In t (span (task_at home live) 0 i) → t.id ≤ last

pub risen_none : (home live : List ℕ) → Risen home live 0 0
risen_none home live = record { rises = rw (span_none (task_at home live) 0) tt; low = λ t h. absurd (subst (λ (xs : List s.Task). In t xs) (span_none (task_at home live) 0) h) }

pub risen_hole : (home live row : List ℕ) (i last : ℕ) → row ≡ task_row_lem home i → at row 0 ≡ 0 → Risen home live i last → Risen home live (i + 1) last
risen_hole home live row i last r z k =
    let e : span (task_at home live) 0 (i + 1) ≡ span (task_at home live) 0 i = span_more (task_at home live) i ∙ ap (λ (xs : List s.Task). span (task_at home live) 0 i ++ xs) (row_hole home live row i r z) ∙ append-nil _ in
    record { rises = rw e k.rises; low = λ t h. k.low t (subst (λ (xs : List s.Task). In t xs) e h) }

pub risen_more : (home live row : List ℕ) (i last : ℕ) → row ≡ task_row_lem home i → (at row 0 ≡ 0 → ⊥) → last < at row 0 → Risen home live i last → Risen home live (i + 1) (at row 0)
risen_more home live row i last r ne l k =
    let t = task_from (task_row_lem home i) (at live (256 + i)) in
    let id : at row 0 ≡ t.id = ap (λ (x : List ℕ). at x 0) r in
    let e : span (task_at home live) 0 (i + 1) ≡ span (task_at home live) 0 i ++ t ∷ [] = span_more (task_at home live) i ∙ ap (λ (xs : List s.Task). span (task_at home live) 0 i ++ xs) (row_full home live row i r ne) in
    record {
      rises = rw e (rising_end 0 (span (task_at home live) 0 i) t k.rises (λ u h. let q = k.low u h in omega arith) (omega arith));
      low = λ u h. elim (in_end u t (span (task_at home live) 0 i) (subst (λ (xs : List s.Task). In u xs) e h)) [ inl a ↦ (let q = k.low u a in omega arith) | inr b ↦ (let q : u.id ≡ t.id = ap (λ (x : s.Task). x.id) b in omega arith) ];
    }

pub risen_all : (home live : List ℕ) (time i last : ℕ) → i ≡ task_rows_lem home → last ≤ at home 0 → Risen home live i last → Numbered (state_of home live time)
risen_all home live time i last e l k =
    let q : span (task_at home live) 0 i ≡ span (task_at home live) 0 (task_rows_lem home) = ap (span (task_at home live) 0) e in
    (subst (λ (xs : List s.Task). Rising 0 xs) q k.rises, λ t h. let p = k.low t (subst (λ (xs : List s.Task). In t xs) (sym q) h) in omega arith)
