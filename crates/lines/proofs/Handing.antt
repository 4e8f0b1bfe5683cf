-- Pieces of input, one by one.
-- Assumes nothing.
use Rattle.std.proofs.Common.{◌≡◌, ℕ, [], ◌∷◌, ◌++◌, length, Some, None, Option, sym, ap, ◌∙◌, subst, append_assoc, append-nil, arith}
use Rattle.std.specs.List.{concat}
use Rattle.std.specs.Io.KnownBytes.{Consumes}
use Rattle.std.proofs.lemmas.Fn.{FoldsTo-push}
use Rattle.std.proofs.lemmas.List.Folds.{concat-append}
use Rattle.model.specs.Wire.{Bytes}
use Rattle.lines.specs.Input.{HandedOn}

consumes_both : (old mid new : Option Bytes) (xs ys : Bytes) → Consumes old mid xs → Consumes mid new ys → Consumes old new (xs ++ ys)
consumes_both None mid new xs ys h k = tt
consumes_both (Some a) None new xs ys h k = absurd h
consumes_both (Some a) (Some b) None xs ys h k = absurd k
consumes_both (Some a) (Some b) (Some c) xs ys h k = h ∙ ap (λ (bs : Bytes). xs ++ bs) k ∙ sym (append_assoc xs ys c)

module _ {F : Type 0} (calls : F → Bytes → F → Type 0) (f last : F) (old mid new : Option Bytes) (h : HandedOn calls f last old mid) (bs : Bytes) (k : Consumes mid new bs) where
  pub handed_more : (next : F) → calls last bs next → HandedOn calls f next old new
  handed_more next c =
      record {
        pieces = h.pieces ++ (bs ∷ []);
        called = FoldsTo-push calls f h.pieces last bs next h.called c;
        given = let e : concat h.pieces ++ bs ≡ concat (h.pieces ++ (bs ∷ [])) = sym (concat-append h.pieces (bs ∷ []) ∙ ap (λ (xs : Bytes). concat h.pieces ++ xs) (append-nil bs)) in subst (Consumes old new) e (consumes_both old mid new (concat h.pieces) bs h.given k);
      }

  pub handed_all : length bs ≡ 0 → HandedOn calls f last old new
  handed_all l = record { pieces = h.pieces; called = h.called; given = subst (Consumes old new) (none bs l) (consumes_both old mid new (concat h.pieces) bs h.given k) }
    where
      none : (xs : Bytes) → length xs ≡ 0 → concat h.pieces ++ xs ≡ concat h.pieces
      none [] e = append-nil (concat h.pieces)
      none (x ∷ xs) e = absurd (let z : ◌≡◌ {A = ℕ} 0 1 = omega (arith, e) in omega arith)
