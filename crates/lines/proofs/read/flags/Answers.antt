use Rattle.std.proofs.Common.{◌≡◌, ℕ, zero, suc, ◌/◌, Bool, ◌&&◌, List, [], ◌∷◌, length, get_or, take, drop, sym, refl, ap, ◌∙◌, subst, arith, rules, tests, get_or-take}
use Rattle.std.specs.List.{list_all}
use Rattle.std.specs.Iterator.{AlwaysYields}
use Rattle.std.specs.Slice.Iter.{chunks_exact_rest, chunks_exact_size, chunks_exact_steps}
use Rattle.std.proofs.lemmas.Iterator.{YieldsList}
use Rattle.std.proofs.lemmas.Iterator.Search.{all_from_yields_List}
use Rattle.std.proofs.lemmas.List.{length-append, take_at, drop_at}
use Rattle.model.specs.Wire.{Bytes, is_flag, flags_in}
use Rattle.lines.proofs.read.flags.Goals as goal

-- the first n tasks, of nine bytes each
abbrev tasks_in : ℕ → Bytes → List Bytes
tasks_in zero ts = []
tasks_in (suc n) ts = take 9 ts ∷ tasks_in n (drop 9 ts)

-- they are what comes of the iterator
comes : (n : ℕ) (s : _) → chunks_exact_size s ≡ 9 → length (chunks_exact_rest s) / 9 ≡ n → AlwaysYields (chunks_exact_steps {A = ℕ}) (λ x. x.now) s (tasks_in n (chunks_exact_rest s))
comes zero s z e = λ x j p. let l = ap length p.1.0 ∙ length-append x.now (chunks_exact_rest j) in omega (arith, l, p.1.1, z, e)
comes (suc n) s z e = (
  λ j p. omega (arith, p.1.0, z, e),
  λ x j p.
      let l : length x.now ≡ 9 = p.1.1 ∙ z in let m = ap length p.1.0 ∙ length-append x.now (chunks_exact_rest j) in
      let t : take 9 (chunks_exact_rest s) ≡ x.now = ap (take 9) p.1.0 ∙ take_at x.now (chunks_exact_rest j) 9 l in
      let d : drop 9 (chunks_exact_rest s) ≡ chunks_exact_rest j = ap (drop 9) p.1.0 ∙ drop_at x.now (chunks_exact_rest j) 9 l in
      (sym t, subst (λ (ts : Bytes). AlwaysYields (chunks_exact_steps {A = ℕ}) (λ x. x.now) j (tasks_in n ts)) (sym d) (comes n j (p.0 ∙ z) (omega (arith, l, m, e)))),
)

-- and each is asked for its last byte
asked : (n : ℕ) (ts : Bytes) → list_all (λ t. is_flag (get_or t 8 0)) (tasks_in n ts) ≡ flags_in n ts
unfolding flags_in
asked zero ts = refl
asked (suc n) ts = let e : get_or (take 9 ts) 8 0 ≡ get_or ts 8 0 = get_or-take 9 ts 8 0 (omega arith) in rw e (ap (λ (b : Bool). is_flag (get_or ts 8 0) && b) (asked n (drop 9 ts)))

pub returns : goal.returns
returns c =
    let n : ℕ = length c.args.tasks.now / 9 in
    let given = comes n c.chunks_exact.result c.chunks_exact.ensures.size (ap (λ (ts : Bytes). length ts / 9) c.chunks_exact.ensures.rest) in
    let listed : YieldsList (chunks_exact_steps {A = ℕ}) (λ x. x.now) c.chunks_exact.result (tasks_in n c.args.tasks.now) =
    record { runs = subst (λ (ts : Bytes). AlwaysYields (chunks_exact_steps {A = ℕ}) (λ x. x.now) c.chunks_exact.result (tasks_in n ts)) c.chunks_exact.ensures.rest given } in
    all_from_yields_List (λ t. is_flag (get_or t 8 0)) _ _ c.all.result c.all.ensures.ran listed (λ x b q k. search (rules, tests)) ∙ asked n c.args.tasks.now
