-- Rounds: what happens where all works and people leave the herd alone.
-- Assumes nothing.
use Rattle.std.specs.Prelude.{◌≡◌, ℕ, suc, ◌<◌, Bool, true, false, not, T, List, [], ◌∷◌, ◌++◌, ◌≢◌}
use mathlib.Core.List.{Memᴰ}
use Rattle.model.specs.Lists.{some}
use Rattle.model.specs.State.{Machine, Job, State}
use Rattle.model.specs.Settle.{present, takes, fresh}
use Rattle.model.specs.Calls.{Seen, Report, Tick, Order, Run, later, does}
use Rattle.model.specs.World.{Up, Back, World, with_herd, with_agent, with_word, report_of, reported, running, obeys, is_seen}

-- A CALM STEP

-- the agent of that machine has obeyed the answer to its last report, if one was given
abbrev pub Obeyed : World → ℕ → Type 0
Obeyed w i = (os : List Order) → Memᴰ (Back i (w.agent i).life (w.agent i).number os) w.sent → (w.agent i).ordered ≡ os

-- No call comes but reports and times; the herd stays up, and so do agents. All else may happen in any order. The list says of whom a report was heard.
pub data Calm : List ℕ → World → World → Type 0 where
  -- an agent reports: by then it has obeyed what it was answered before
  sends : (w : World) (i : ℕ) → 0 < (w.agent i).life → Obeyed w i → Calm [] w (with_word (report_of i (w.agent i)) (with_agent i (reported (w.agent i)) w))
  -- the herd hears an agent's last report, and answers it, so that the numbers of lives and reports aren't at their end: when it was sent, all that was ordered there had been started and was ready
  hears : (w : World) (i : ℕ) (xs : List Seen) (os : List Order) → Memᴰ (Up i (w.agent i).life (w.agent i).number xs) w.sent → ((x : Seen) → Memᴰ x xs → x.ready ≡ true) →
      (does (Report i (w.agent i).life (w.agent i).number xs) w.herd).reply ≡ Run (w.agent i).number os →
      Calm (i ∷ []) w (with_word (Back i (w.agent i).life (w.agent i).number os) (with_herd (does (Report i (w.agent i).life (w.agent i).number xs) w.herd).state w))
  -- an old report comes late, or one comes again, and is turned away
  hears_not : (w : World) (i l n : ℕ) (xs : List Seen) → Memᴰ (Up i l n xs) w.sent → ((k : ℕ) (os : List Order) → (does (Report i l n xs) w.herd).reply ≢ Run k os) → Calm [] w (with_herd (does (Report i l n xs) w.herd).state w)
  -- an agent obeys the answer to its last report
  heeds : (w : World) (i : ℕ) (os : List Order) → Memᴰ (Back i (w.agent i).life (w.agent i).number os) w.sent → Calm [] w (with_agent i (obeys os (w.agent i)) w)
  -- a time is told, and each machine that was present is so still: it reported at most 30,000 ms of told time ago
  ticks : (w : World) (t : ℕ) → ((m : Machine) → Memᴰ m w.herd.machines → present w.herd.now m ≡ true → present (later t w.herd.now) m ≡ true) → Calm [] w (with_herd (does (Tick t) w.herd).state w)
  -- what is ordered is started; what runs becomes ready or isn't so any more, or dies: all is well if it is ready when its machine reports
  starts : (w : World) (i : ℕ) (o : Order) → Memᴰ o (w.agent i).ordered → T (not (some (is_seen o.id) (w.agent i).runs)) → Calm [] w (with_agent i (running (record { id = o.id; ready = false } ∷ (w.agent i).runs) (w.agent i)) w)
  becomes : (w : World) (i : ℕ) (before behind : List Seen) (x : Seen) (b : Bool) → (w.agent i).runs ≡ before ++ x ∷ behind → Calm [] w (with_agent i (running (before ++ record { id = x.id; ready = b } ∷ behind) (w.agent i)) w)
  dies : (w : World) (i : ℕ) (before behind : List Seen) (x : Seen) → (w.agent i).runs ≡ before ++ x ∷ behind → Calm [] w (with_agent i (running (before ++ behind) (w.agent i)) w)

-- calm steps one after the other, the herd being such after each
pub data Course (P : State → Type 0) : List ℕ → World → World → Type 0 where
  stop : (w : World) → Course P [] w w
  go : {ks ls : List ℕ} {w u v : World} → Calm ks w u → P u.herd → Course P ls u v → Course P (ks ++ ls) w v

-- A ROUND

-- nothing is asked of the herd's state
abbrev pub Anyhow : State → Type 0
Anyhow s = Unit {0}

-- task numbers are left, and of each job some machine, open and present, takes one more task
abbrev pub Roomy : State → Type 0
Roomy s = (s.next_id < 4611686018427387904) × ((j : Job) → Memᴰ j s.jobs → (m : Machine) × Memᴰ m s.machines × T (takes s.now (fresh j 0) s.tasks m))

-- of every machine that the herd has a report is heard, once or more often
abbrev pub Round : (State → Type 0) → World → World → Type 0
Round P w v = (ks : List ℕ) × Course P ks w v × ((m : Machine) → Memᴰ m w.herd.machines → Memᴰ m.num ks)

pub data Rounds (P : State → Type 0) : ℕ → World → World → Type 0 where
  none : (w : World) → Rounds P 0 w w
  more : {n : ℕ} {w u v : World} → Round P w u → Rounds P n u v → Rounds P (suc n) w v
