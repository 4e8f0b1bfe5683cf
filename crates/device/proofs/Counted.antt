-- The counter serves what is meant.
-- Assumes nothing.
use Rattle.std.proofs.Common.{◌≡◌, ℕ, zero, suc, ◌<◌, false, List, [], ◌∷◌, length, get_or, sym, refl, ap, subst, arith}
use Rattle.model.specs.Right.{Darkens}
use Rattle.device.specs.declared.counter.Ask.{Ask}
use Rattle.device.specs.declared.counter.Ask.TheVariants.{Add, Show}
use Rattle.device.specs.Service.{Serves}
use Rattle.device.specs.Counter.{State, forgets, says, meant, keeps, mind_of, service, Stands}

small : (s : State) → s.sum < 18446744073709551616 → s.count < 18446744073709551616 → (i : ℕ) → get_or (s.sum ∷ s.count ∷ []) i 0 < 18446744073709551616
small s a b zero = a
small s a b (suc zero) = b
small s a b (suc (suc i)) = omega arith

fits : (c : Ask) (s : State) → Stands s s → Stands (says c s).mind (says c s).mind
fits (Add n) s a = record { same = refl; sum_fits = omega arith; count_fits = omega arith }
fits Show s a = record { same = refl; sum_fits = a.sum_fits; count_fits = a.count_fits }

still : (c : Ask) (x : State) → keeps c x ≡ false → service.home_of (says c x).mind ≡ service.home_of x
still (Add n) x e = let z : ◌≡◌ {A = ℕ} 0 1 = cc in absurd (omega arith)
still Show x e = refl

pub serves : Serves meant service Stands
serves =
    record {
      room = omega arith;
      sized = λ x s a. refl;
      small = λ x s a i. subst (λ (y : State). get_or (service.home_of y) i 0 < 18446744073709551616) (sym a.same) (small s a.sum_fits a.count_fits i);
      first = record { same = refl; sum_fits = omega arith; count_fits = omega arith };
      blank = refl;
      answers = λ c x s a.
          let at : Stands s s = record { same = refl; sum_fits = a.sum_fits; count_fits = a.count_fits } in
          let f = fits c s at in
          ((says c s).mind, (ap (λ (y : State). (says c y).reply) a.same, refl), record { same = ap (λ (y : State). (says c y).mind) a.same; sum_fits = f.sum_fits; count_fits = f.count_fits });
      still = λ c x s a e. still c x e;
      wakes = λ x s a. record { same = ap forgets a.same; sum_fits = a.sum_fits; count_fits = a.count_fits };
      again = λ x s a. refl;
    }

pub darkens : Darkens meant
darkens = record { twice = λ s. refl; first = refl }

-- its words are its home
pub two_words : (ws : List ℕ) (n : ℕ) → length ws ≡ 2 → service.home_of (mind_of ws n) ≡ ws
two_words [] n h = absurd (omega arith)
two_words (a ∷ []) n h = absurd (omega arith)
two_words (a ∷ b ∷ []) n h = refl
two_words (a ∷ b ∷ c ∷ ws) n h = absurd (omega arith)
