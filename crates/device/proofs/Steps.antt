-- The code of a change, step by step along its doing.
-- Assumes nothing.
use Rattle.std.proofs.Common.{◌≡◌, ℕ, suc, ◌+◌, ◌<◌, ◌≤◌, ◌==◌, Bool, false, cond, not, eqb, List, [], ◌∷◌, length, filter, get_or, drop, Result, sym, refl, ap, subst, ◌∙◌, inl, inr, arith}
use Rattle.std.proofs.lemmas.Result.{MatchResult-weaker}
use Rattle.std.proofs.lemmas.List.{drop_more, drop_all}
use Rattle.std.proofs.lemmas.Bool.{cases_Bool, le-leb, lt-leb, eq-eqb, ne_eqb, cond-true, cond-false}
use Rattle.std.specs.List.{enumerate_from}
use Rattle.model.specs.Memory.{Memory, Doing, done, load, store, comes_to, leaves}
use Rattle.device.specs.Follows.{Ended, Follows, and_then}
use Rattle.device.specs.Halves.{held_at, spare_at, turned, differs, copies, deciding, commits}
use Rattle.device.specs.Service.{keeping}
use Rattle.device.proofs.Doings.{Leads, leads_here, leads_load, leads_as, leads_part, leads_done}

-- all words looked at
loaded : (k : ℕ → Doing ℕ) (a : ℕ) (m : Memory) (n : ℕ) → Ended (k (m a)) m n m → Ended (load a k) m n m
unfolding comes_to leaves
loaded k a m n d = record { comes = d.comes; left = d.left }

abbrev others : Memory → ℕ → ℕ → List ℕ → ℕ
others m from i ws = length (filter (λ (p : ℕ × ℕ). not (m (from + p.0) == p.1)) (enumerate_from i ws))

-- where n before them differed
differs_on : (m : Memory) (from i n : ℕ) (ws : List ℕ) → Ended (differs (from + i) n ws) m (n + others m from i ws) m
unfolding differs comes_to leaves
differs_on m from i n [] = let e : n + 0 ≡ n = omega arith in rw e (record { comes = refl; left = refl })
differs_on m from i n (w ∷ ws) =
    let k : ℕ → Doing ℕ = λ v. cond (v == w) (differs (from + i + 1) n ws) (differs (from + i + 1) (n + 1) ws) in
    let s : from + i + 1 ≡ from + (i + 1) = omega arith in
    let t : n + suc (others m from (i + 1) ws) ≡ n + 1 + others m from (i + 1) ws = omega arith in
    loaded k (from + i) m _ (elim (cases_Bool (m (from + i) == w)) [ inl e ↦ rw (e, s) (differs_on m from (i + 1) n ws) | inr e ↦ rw (e, s, t) (differs_on m from (i + 1) (n + 1) ws) ])

pub differs_all : (m : Memory) (from n : ℕ) (ws : List ℕ) → n ≡ length (filter (λ (p : ℕ × ℕ). not (m (from + p.0) == p.1)) (enumerate_from 0 ws)) → Ended (differs from 0 ws) m n m
differs_all m from n ws e =
    let z : from + 0 ≡ from = omega arith in
    let o : 0 + others m from 0 ws ≡ n = omega (arith, e) in
    subst (λ (a : ℕ). Ended (differs a 0 ws) m n m) z (subst (λ (r : ℕ). Ended (differs (from + 0) 0 ws) m r m) o (differs_on m from 0 0 ws))

-- one word copied
module _ {p : Doing (Unit {0})} {m : Memory} (from i : ℕ) (ws : List ℕ) (o : Memory) (v : ℕ) (l : Leads p m (copies (from + i) (drop i ws)) o) (lt : i < length ws) (is : v ≡ o (from + i)) where
  loaded_c : Leads p m (cond (eqb v (get_or ws i 0)) (copies (from + i + 1) (drop (i + 1) ws)) (store (from + i) (get_or ws i 0) (copies (from + i + 1) (drop (i + 1) ws)))) o
  unfolding copies
  loaded_c =
      leads_load (from + i) (λ v. cond (eqb v (get_or ws i 0)) (copies (from + i + 1) (drop (i + 1) ws)) (store (from + i) (get_or ws i 0) (copies (from + i + 1) (drop (i + 1) ws)))) o v
      (leads_as (copies (from + i) (get_or ws i 0 ∷ drop (i + 1) ws)) l (ap (copies (from + i)) (drop_more ws i 0 lt))) is

  pub copies_same : v ≡ get_or ws i 0 → Leads p m (copies (from + (i + 1)) (drop (i + 1) ws)) o
  copies_same e = let s : from + i + 1 ≡ from + (i + 1) = omega arith in leads_as _ loaded_c (cond-true _ _ _ (eq-eqb _ _ e) ∙ ap (λ (x : ℕ). copies x (drop (i + 1) ws)) s)

  pub copies_other : (v ≡ get_or ws i 0 → ⊥) → Leads p m (store (from + i) (get_or ws i 0) (copies (from + (i + 1)) (drop (i + 1) ws))) o
  copies_other ne = let s : from + i + 1 ≡ from + (i + 1) = omega arith in leads_as _ loaded_c (cond-false _ _ _ (ne_eqb _ _ ne) ∙ ap (λ (x : ℕ). store (from + i) (get_or ws i 0) (copies x (drop (i + 1) ws))) s)

pub copies_end : (a i : ℕ) (ws : List ℕ) → length ws ≤ i → copies a (drop i ws) ≡ done tt
unfolding copies
copies_end a i ws h = ap (copies a) (drop_all i ws h)

-- A CHANGE, where w is word 0, the halves stand at b and s, and n words differ
module _ (h : List ℕ) (m : Memory) (w : ℕ) (is : w ≡ m 0) (b s t : ℕ) (is_b : b ≡ held_at (length h) w) (isS : s ≡ spare_at (length h) w) (isT : t ≡ turned w) (n : ℕ) (e : Ended (differs b 0 h) m n m) where
  decided : Leads (commits h) m (deciding w h n) m
  decided =
      leads_part (deciding w h)
      (leads_as (and_then (differs b 0 h) (deciding w h)) (leads_load 0 (λ w. and_then (differs (held_at (length h) w) 0 h) (deciding w h)) m w (leads_here (commits h) m) is) (ap (λ (x : ℕ). and_then (differs x 0 h) (deciding w h)) (sym is_b)))
      e

  pub in_place : {E : Type 0} (o : Memory) (r : Result (Unit {0}) E) → n ≤ 1 → Follows (copies b h) m r tt o → Follows (commits h) m r tt o
  in_place o r le f =
      let l : Leads (commits h) m (copies b h) m = leads_as _ decided (cond-true _ _ _ (le-leb n 1 le) ∙ ap (λ (x : ℕ). copies x h) (sym is_b)) in
      MatchResult-weaker r f (λ _ x. record { comes = l.comes ∙ x.comes; left = l.left ∙ x.left }) (λ _ x. l.half o x)

  pub turns : 1 < n → Leads (commits h) m (and_then (copies s h) (λ _. store 0 t (done tt))) m
  turns gt =
      leads_as _ decided
      (cond-false _ _ _ (lt-leb n 1 gt) ∙
      ap (λ (x : ℕ). and_then (copies x h) (λ _. store 0 (turned w) (done tt))) (sym isS) ∙
      ap (λ (x : ℕ). and_then (copies s h) (λ _. store 0 x (done tt))) (sym isT))

-- where nothing changed nothing is done
pub keeps_none : (b : Bool) (h : List ℕ) (m : Memory) → b ≡ false → Ended (keeping b h) m tt m
unfolding comes_to leaves
keeps_none b h m e = leads_done tt (leads_as (done tt) (leads_here (keeping b h) m) (cond-false _ _ _ e))
