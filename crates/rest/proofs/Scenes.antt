-- What matters of a world here: the herd, and of each agent its life and what it has ordered, or will have as soon as it obeys the answer to its last report.
-- Assumes nothing.
use Rattle.std.proofs.Common.{◌≡◌, ℕ, suc, true, false, eqb, List, [], ◌∷◌, ◌++◌}
use mathlib.Core.List.{Memᴰ}
use Rattle.model.specs.State.{Machine, State, is_machine, on_machine}
use Rattle.model.specs.Lists.{some, keep, find}
use Rattle.model.specs.Settle.{present, settle}
use Rattle.model.specs.Calls.{Seen, Order, orders, timed, heard}
use Rattle.model.specs.World.{is_order, is_seen}
use Rattle.rest.specs.Rest.{to_do}
use Rattle.model.proofs.Lists.{In}
use Rattle.model.proofs.Keeps.{Sound}

pub record Scene : Type 0 where
  pub herd : State
  pub life : ℕ → ℕ
  pub ordered : ℕ → List Order

abbrev pub left : Scene → ℕ
left w = to_do w.herd.jobs w.herd.tasks

-- a report is heard: what is said is ready, and is what is ordered
pub record Visits (w v : Scene) (i : ℕ) : Type 0 where
  pub number : ℕ
  pub said : List Seen
  pub machine : Machine
  pub rest : List Machine
  pub found : find (is_machine i) w.herd.machines ≡ machine ∷ rest
  pub clock : eqb w.herd.now 0 ≡ false
  pub herd : v.herd ≡ settle (heard i (w.life i) number said w.herd)
  pub ready : (x : Seen) → In x said → x.ready ≡ true
  pub seen : (j : ℕ) → some (is_seen j) said ≡ some (is_order j) (w.ordered i)
  pub ordered : v.ordered i ≡ orders (keep (on_machine i) (settle (heard i (w.life i) number said w.herd)).tasks)
  pub life : v.life i ≡ w.life i
  pub lives : (j : ℕ) → eqb j i ≡ false → v.life j ≡ w.life j
  pub others : (j : ℕ) → eqb j i ≡ false → v.ordered j ≡ w.ordered j

-- the state in which the report leaves the herd before the pass
abbrev pub told : (w v : Scene) (i : ℕ) → Visits w v i → State
told w v i vs = heard i (w.life i) vs.number vs.said w.herd

pub record Ticks (w v : Scene) : Type 0 where
  pub time : ℕ
  pub herd : v.herd ≡ settle (timed time w.herd)
  pub stay : (m : Machine) → In m w.herd.machines → present w.herd.now m ≡ true → present time m ≡ true
  pub life : (j : ℕ) → v.life j ≡ w.life j
  pub ordered : (j : ℕ) → v.ordered j ≡ w.ordered j

pub record Sames (w v : Scene) : Type 0 where
  pub herd : v.herd ≡ w.herd
  pub life : (j : ℕ) → v.life j ≡ w.life j
  pub ordered : (j : ℕ) → v.ordered j ≡ w.ordered j

pub data Move : List ℕ → Scene → Scene → Type 0 where
  visit : {w v : Scene} (i : ℕ) → Visits w v i → Sound v.herd → Move (i ∷ []) w v
  tick : {w v : Scene} → Ticks w v → Sound v.herd → Move [] w v
  stays : {w v : Scene} → Sames w v → Sound v.herd → Move [] w v

pub sound_move : {ks : List ℕ} {w v : Scene} → Move ks w v → Sound v.herd
sound_move (visit i vs s) = s
sound_move (tick ts s) = s
sound_move (stays ss s) = s

pub data Moves (P : State → Type 0) : List ℕ → Scene → Scene → Type 0 where
  stop : (w : Scene) → Moves P [] w w
  go : {ks ls : List ℕ} {w u v : Scene} → Move ks w u → P u.herd → Moves P ls u v → Moves P (ks ++ ls) w v

abbrev pub Turn : (State → Type 0) → Scene → Scene → Type 0
Turn P w v = (ks : List ℕ) × Moves P ks w v × ((m : Machine) → Memᴰ m w.herd.machines → Memᴰ m.num ks)

pub data Turns (P : State → Type 0) : ℕ → Scene → Scene → Type 0 where
  none : (w : Scene) → Turns P 0 w w
  more : {n : ℕ} {w u v : Scene} → Turn P w u → Turns P n u v → Turns P (suc n) w v
