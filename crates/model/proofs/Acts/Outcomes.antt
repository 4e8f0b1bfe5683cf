-- Calls by their outcomes: what holds of every refusal, and of what each call leaves when its pass is done, holds of the call. Other proofs know calls by does_is, and not by their text.
-- Assumes nothing.
use Rattle.std.proofs.Common.{◌≡◌, ℕ, ◌+◌, true, false, not, ◌&&◌, ◌||◌, eqb, ltb, leb, List, [], ◌∷◌, ◌++◌, length, refl}
use Rattle.std.proofs.lemmas.Bool.{not-false, cond_both}
use Rattle.model.specs.State.{Name, Machine, Spec, Job, State, is_job, is_machine, of_job, with_machines, with_jobs}
use Rattle.model.specs.Lists.{every, keep, find, change, none}
use Rattle.model.specs.Settle.{settle}
use Rattle.model.specs.Calls.{Seen, Call, SetJob, EndJob, AddMachine, Close, Reopen, Forget, Report, Tick, Show, Lines, Out, no, yes', same_spec_lem, job_ok, all_most, others, sets_job, small, answers_report, reports, opened, later, timed, lines_of, acts, is_tick, does, new_job, reset_job_lem, new_machine, heard, forgotten}
use Rattle.model.proofs.Lists.{none_true}

-- what has to be shown of each outcome that isn't a refusal
abbrev pub Must : (Out → Type 0) → Call → State → Type 0
Must P (SetJob n a c l m) s =
    (find (is_job n) s.jobs ≡ [] → P (yes' (with_jobs (s.jobs ++ (new_job n a c l m ∷ [])) s))) × ((j : Job) (js : List Job) → find (is_job n) s.jobs ≡ j ∷ js → P (yes' (with_jobs (change (is_job n) (reset_job_lem n a c l m) s.jobs) s)))
Must P (EndJob n) s = P (yes' (with_jobs (keep (λ (j : Job). not (is_job n j)) s.jobs) s))
Must P (AddMachine k c m tags) s = find (is_machine k) s.machines ≡ [] → P (yes' (with_machines (s.machines ++ (new_machine k c m tags ∷ [])) s))
Must P (Close k) s = P (yes' (with_machines (change (is_machine k) (opened false) s.machines) s))
Must P (Reopen k) s = P (yes' (with_machines (change (is_machine k) (opened true) s.machines) s))
Must P (Forget k) s = P (yes' (forgotten k s))
Must P (Report k l n xs) s = (m : Machine) (ms : List Machine) → find (is_machine k) s.machines ≡ m ∷ ms → (ltb l m.life || (eqb l m.life && leb n m.number)) ≡ false → P (answers_report k n (settle (heard k l n xs s)))
Must P (Tick t) s = P (yes' (timed (later t s.now) s))
Must P (Show n) s = P (record { reply = Lines (lines_of (keep (of_job n) s.tasks)); state = s })

-- the same of the state before the pass
abbrev pub Pre : (State → Type 0) → Call → State → Type 0
Pre Q (SetJob n a c l m) s =
    (find (is_job n) s.jobs ≡ [] → Q (with_jobs (s.jobs ++ (new_job n a c l m ∷ [])) s)) × ((j : Job) (js : List Job) → find (is_job n) s.jobs ≡ j ∷ js → Q (with_jobs (change (is_job n) (reset_job_lem n a c l m) s.jobs) s))
Pre Q (EndJob n) s = Q (with_jobs (keep (λ (j : Job). not (is_job n j)) s.jobs) s)
Pre Q (AddMachine k c m tags) s = find (is_machine k) s.machines ≡ [] → Q (with_machines (s.machines ++ (new_machine k c m tags ∷ [])) s)
Pre Q (Close k) s = Q (with_machines (change (is_machine k) (opened false) s.machines) s)
Pre Q (Reopen k) s = Q (with_machines (change (is_machine k) (opened true) s.machines) s)
Pre Q (Forget k) s = Q (forgotten k s)
Pre Q (Report k l n xs) s = (m : Machine) (ms : List Machine) → find (is_machine k) s.machines ≡ m ∷ ms → (ltb l m.life || (eqb l m.life && leb n m.number)) ≡ false → Q (heard k l n xs s)
Pre Q (Tick t) s = Q (timed (later t s.now) s)
Pre Q (Show n) s = Unit {0}

-- what a pass keeps, each call's outcome has if the state before the pass had it
pub must_settle : (Q : State → Type 0) → ((u : State) → Q u → Q (settle u)) → (c : Call) (s : State) → Q s → Pre Q c s → Must (λ (o : Out). Q o.state) c s
must_settle Q h (SetJob n a c l m) s q p = (λ e. h _ (p.0 e), λ j js e. h _ (p.1 j js e))
must_settle Q h (EndJob n) s q p = h _ p
must_settle Q h (AddMachine k c m tags) s q p = λ e. h _ (p e)
must_settle Q h (Close k) s q p = h _ p
must_settle Q h (Reopen k) s q p = h _ p
must_settle Q h (Forget k) s q p = h _ p
must_settle Q h (Report k l n xs) s q p = λ m ms e g. h _ (p m ms e g)
must_settle Q h (Tick t) s q p = h _ p
must_settle Q h (Show n) s q p = q

pub sets_is : (P : Out → Type 0) (n : Name) (a : Spec) (c l m : ℕ) (s : State) → ((k : ℕ) → P (no k s)) → Must P (SetJob n a c l m) s → (js : List Job) → find (is_job n) s.jobs ≡ js → P (sets_job n a c l m js s)
unfolding sets_job
sets_is P n a c l m s r h [] e = cond_both (leb 256 (length s.jobs)) _ _ P (λ _. r 8) (λ _. h.0 e)
sets_is P n a c l m s r h (j ∷ js) e = cond_both (not (same_spec_lem a j.spec) && leb 4294967295 j.version) _ _ P (λ _. r 8) (λ _. h.1 j js e)

pub reports_is : (P : Out → Type 0) (k l n : ℕ) (xs : List Seen) (s : State) → ((i : ℕ) → P (no i s)) → Must P (Report k l n xs) s → (ms : List Machine) → find (is_machine k) s.machines ≡ ms → P (reports k l n xs ms s)
unfolding reports
reports_is P k l n xs s r h [] e = r 2
reports_is P k l n xs s r h (m ∷ ms) e = cond_both (ltb l m.life || (eqb l m.life && leb n m.number)) _ _ P (λ _. r 5) (λ q. h m ms e q)

-- the same where a time was told
pub acts_is : (P : Out → Type 0) (c : Call) (s : State) → ((k : ℕ) → P (no k s)) → Must P c s → P (acts c s)
unfolding acts
acts_is P (SetJob n a c l m) s r h = cond_both (job_ok n a c l m) _ _ P (λ _. cond_both (ltb 2048 (m + all_most (others n s.jobs))) _ _ P (λ _. r 8) (λ _. sets_is P n a c l m s r h (find (is_job n) s.jobs) refl)) (λ _. r 1)
acts_is P (EndJob n) s r h = cond_both (none (find (is_job n) s.jobs)) _ _ P (λ _. r 2) (λ _. h)
acts_is P (AddMachine k c m tags) s r h =
    cond_both (not (none (find (is_machine k) s.machines))) _ _ P (λ _. r 3) (λ e. cond_both (ltb 65535 k || ltb 1000000000 c || ltb 1000000000 m || ltb 16 (length tags) || not (every small tags)) _ _ P (λ _. r 1) (λ _. cond_both (leb 256 (length s.machines)) _ _ P (λ _. r 8) (λ _. h (none_true _ (not-false _ e)))))
acts_is P (Close k) s r h = cond_both (none (find (is_machine k) s.machines)) _ _ P (λ _. r 2) (λ _. h)
acts_is P (Reopen k) s r h = cond_both (none (find (is_machine k) s.machines)) _ _ P (λ _. r 2) (λ _. h)
acts_is P (Forget k) s r h = cond_both (none (find (is_machine k) s.machines)) _ _ P (λ _. r 2) (λ _. h)
acts_is P (Report k l n xs) s r h = cond_both (ltb 4611686018427387904 l || ltb 4611686018427387904 n || ltb 2048 (length xs)) _ _ P (λ _. r 1) (λ _. reports_is P k l n xs s r h (find (is_machine k) s.machines) refl)
acts_is P (Tick t) s r h = cond_both (eqb t 0 || ltb 4611686018427387904 t) _ _ P (λ _. r 1) (λ _. h)
acts_is P (Show n) s r h = h

-- what holds of every refusal and of every other outcome holds of a call
pub does_is : (P : Out → Type 0) (c : Call) (s : State) → ((k : ℕ) → P (no k s)) → Must P c s → P (does c s)
does_is P c s r h = cond_both (eqb s.now 0 && not (is_tick c)) (no 10 s) (acts c s) P (λ _. r 10) (λ _. acts_is P c s r h)

-- what settling keeps, and a call's own changes, calls keep
pub does_keeps : (Q : State → Type 0) → ((u : State) → Q u → Q (settle u)) → (c : Call) (s : State) → Q s → Pre Q c s → Q (does c s).state
does_keeps Q h c s q p = does_is (λ (o : Out). Q o.state) c s (λ k. q) (must_settle Q h c s q p)

-- the same, with what a call that isn't about the time may use: that a time was told
pub does_timed : (P : Out → Type 0) (c : Call) (s : State) → ((k : ℕ) → P (no k s)) → ((eqb s.now 0 && not (is_tick c)) ≡ false → Must P c s) → P (does c s)
does_timed P c s r h = cond_both (eqb s.now 0 && not (is_tick c)) (no 10 s) (acts c s) P (λ _. r 10) (λ e. acts_is P c s r (h e))

-- THE SAME, WITH WHAT A CALL TESTS

-- what a call was tested for when it is not refused
abbrev pub Tested : Call → State → Type 0
Tested (SetJob n a c l m) s = job_ok n a c l m ≡ true
Tested (EndJob n) s = Unit {0}
Tested (AddMachine k c m tags) s = (ltb 65535 k || ltb 1000000000 c || ltb 1000000000 m || ltb 16 (length tags) || not (every small tags)) ≡ false
Tested (Close k) s = Unit {0}
Tested (Reopen k) s = Unit {0}
Tested (Forget k) s = Unit {0}
Tested (Report k l n xs) s = (ltb 4611686018427387904 l || ltb 4611686018427387904 n || ltb 2048 (length xs)) ≡ false
Tested (Tick t) s = Unit {0}
Tested (Show n) s = Unit {0}

pub acts_when : (P : Out → Type 0) (c : Call) (s : State) → ((k : ℕ) → P (no k s)) → (Tested c s → Must P c s) → P (acts c s)
unfolding acts
acts_when P (SetJob n a c l m) s r h = cond_both (job_ok n a c l m) _ _ P (λ g. cond_both (ltb 2048 (m + all_most (others n s.jobs))) _ _ P (λ _. r 8) (λ _. sets_is P n a c l m s r (h g) (find (is_job n) s.jobs) refl)) (λ _. r 1)
acts_when P (EndJob n) s r h = cond_both (none (find (is_job n) s.jobs)) _ _ P (λ _. r 2) (λ _. h tt)
acts_when P (AddMachine k c m tags) s r h =
    cond_both (not (none (find (is_machine k) s.machines))) _ _ P (λ _. r 3) (λ e. cond_both (ltb 65535 k || ltb 1000000000 c || ltb 1000000000 m || ltb 16 (length tags) || not (every small tags)) _ _ P (λ _. r 1) (λ g. cond_both (leb 256 (length s.machines)) _ _ P (λ _. r 8) (λ _. h g (none_true _ (not-false _ e)))))
acts_when P (Close k) s r h = cond_both (none (find (is_machine k) s.machines)) _ _ P (λ _. r 2) (λ _. h tt)
acts_when P (Reopen k) s r h = cond_both (none (find (is_machine k) s.machines)) _ _ P (λ _. r 2) (λ _. h tt)
acts_when P (Forget k) s r h = cond_both (none (find (is_machine k) s.machines)) _ _ P (λ _. r 2) (λ _. h tt)
acts_when P (Report k l n xs) s r h = cond_both (ltb 4611686018427387904 l || ltb 4611686018427387904 n || ltb 2048 (length xs)) _ _ P (λ _. r 1) (λ g. reports_is P k l n xs s r (h g) (find (is_machine k) s.machines) refl)
acts_when P (Tick t) s r h = cond_both (eqb t 0 || ltb 4611686018427387904 t) _ _ P (λ _. r 1) (λ _. h tt)
acts_when P (Show n) s r h = h tt

pub does_when : (P : Out → Type 0) (c : Call) (s : State) → ((k : ℕ) → P (no k s)) → (Tested c s → Must P c s) → P (does c s)
does_when P c s r h = cond_both (eqb s.now 0 && not (is_tick c)) (no 10 s) (acts c s) P (λ _. r 10) (λ _. acts_when P c s r h)

-- what a pass leaves of the state before it, and what stays if nothing was done
pub must_from : (Q W : State → Type 0) → ((u : State) → Q u → W (settle u)) → (c : Call) (s : State) → W s → Pre Q c s → Must (λ (o : Out). W o.state) c s
must_from Q W h (SetJob n a c l m) s q p = (λ e. h _ (p.0 e), λ j js e. h _ (p.1 j js e))
must_from Q W h (EndJob n) s q p = h _ p
must_from Q W h (AddMachine k c m tags) s q p = λ e. h _ (p e)
must_from Q W h (Close k) s q p = h _ p
must_from Q W h (Reopen k) s q p = h _ p
must_from Q W h (Forget k) s q p = h _ p
must_from Q W h (Report k l n xs) s q p = λ m ms e g. h _ (p m ms e g)
must_from Q W h (Tick t) s q p = h _ p
must_from Q W h (Show n) s q p = q

-- both before the pass
pub pre_both : (Q W : State → Type 0) (c : Call) (s : State) → Pre Q c s → Pre W c s → Pre (λ (u : State). Q u × W u) c s
pre_both Q W (SetJob n a c l m) s p q = (λ e. (p.0 e, q.0 e), λ j js e. (p.1 j js e, q.1 j js e))
pre_both Q W (EndJob n) s p q = (p, q)
pre_both Q W (AddMachine k c m tags) s p q = λ e. (p e, q e)
pre_both Q W (Close k) s p q = (p, q)
pre_both Q W (Reopen k) s p q = (p, q)
pre_both Q W (Forget k) s p q = (p, q)
pre_both Q W (Report k l n xs) s p q = λ m ms e g. (p m ms e g, q m ms e g)
pre_both Q W (Tick t) s p q = (p, q)
pre_both Q W (Show n) s p q = tt
