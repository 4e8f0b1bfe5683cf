-- Calls and answers as bytes. Numbers stand with their high byte first; a list stands behind its length; whatever has bytes missing or left over is nothing.
-- Assumes nothing.
use Rattle.std.specs.Prelude.{ℕ, zero, suc, ◌+◌, ◌*◌, ◌/◌, ◌%◌, Bool, true, cond, ◌&&◌, List, [], ◌∷◌, ◌++◌, length, take, drop, ◌==◌, nat_le, slice_index}
use Rattle.std.specs.Int.Digits.{number_from_digits as number}
use Rattle.model.specs.State.{Spec, Phase, Waiting, Told, Ready, Ending}
use Rattle.model.specs.Calls.{Seen, Call, SetJob, EndJob, AddMachine, Close, Reopen, Forget, Report, Tick, Show, Order, Line, Reply, No, Yes, Run, Lines}

abbrev pub Bytes : Type 0
Bytes = List ℕ

-- what bytes say, if anything
pub data Read (A : Type 0) : Type 0 where
  garbled : Read A
  meant : A → Read A

-- NUMBERS

-- the number that bytes are, as digits in base 256
abbrev pub value_of : Bytes → ℕ
value_of bs = number 256 bs

-- a number as so many bytes
unfoldable pub bytes_of : ℕ → ℕ → Bytes
bytes_of zero n = []
bytes_of (suc w) n = bytes_of w (n / 256) ++ (n % 256 ∷ [])

-- the number of so many bytes that stands at a place
abbrev pub field : ℕ → ℕ → Bytes → ℕ
field w at bs = value_of (take w (drop at bs))

abbrev pub byte_at : ℕ → Bytes → ℕ
byte_at at bs = slice_index bs at

-- yes and no are 1 and 0, and nothing else
abbrev pub flag_of : Bool → ℕ
flag_of b = cond b 1 0

abbrev pub is_flag : ℕ → Bool
is_flag n = nat_le n 1

-- READING A CALL

unfoldable pub tags_in_lem : ℕ → Bytes → List ℕ
tags_in_lem zero bs = []
tags_in_lem (suc n) bs = field 4 0 bs ∷ tags_in_lem n (drop 4 bs)

unfoldable pub seens_in : ℕ → Bytes → List Seen
seens_in zero bs = []
seens_in (suc n) bs = record { id = field 8 0 bs; ready = (byte_at 8 bs == 1) } ∷ seens_in n (drop 9 bs)

unfoldable pub flags_in : ℕ → Bytes → Bool
flags_in zero bs = true
flags_in (suc n) bs = is_flag (byte_at 8 bs) && flags_in n (drop 9 bs)

-- a spec with t tags: image, cpu and memory (4 bytes each), t (1), the tags (4 each), apart (1)
abbrev pub spec_in_lem : ℕ → Bytes → Spec
spec_in_lem t bs = record { image = field 4 0 bs; cpu = field 4 4 bs; mem = field 4 8 bs; tags = tags_in_lem t (drop 13 bs); apart = (byte_at (13 + 4 * t) bs == 1) }

-- the length of the name (1), the name; nothing behind it
abbrev pub read_name : (List ℕ → Call) → Bytes → Read Call
read_name f bs = cond (length bs == 1 + byte_at 0 bs) (meant (f (drop 1 bs))) garbled

abbrev pub read_machine : (ℕ → Call) → Bytes → Read Call
read_machine f bs = cond (length bs == 2) (meant (f (field 2 0 bs))) garbled

-- with a name of n bytes and t tags
abbrev pub read_set_of : ℕ → ℕ → Bytes → Read Call
read_set_of n t bs =
    cond (length bs == n + 4 * t + 21 && is_flag (byte_at (n + 4 * t + 14) bs))
    (meant (SetJob (take n (drop 1 bs)) (spec_in_lem t (drop (1 + n) bs)) (field 2 (n + 4 * t + 15) bs) (field 2 (n + 4 * t + 17) bs) (field 2 (n + 4 * t + 19) bs))) garbled

abbrev pub read_set_lem : Bytes → Read Call
read_set_lem bs = read_set_of (byte_at 0 bs) (byte_at (byte_at 0 bs + 13) bs) bs

abbrev pub read_add_lem : Bytes → Read Call
read_add_lem bs = cond (length bs == 11 + 4 * byte_at 10 bs) (meant (AddMachine (field 2 0 bs) (field 4 2 bs) (field 4 6 bs) (tags_in_lem (byte_at 10 bs) (drop 11 bs)))) garbled

abbrev pub read_report_lem : Bytes → Read Call
read_report_lem bs =
    cond (length bs == 20 + 9 * field 2 18 bs && flags_in (field 2 18 bs) (drop 20 bs))
    (meant (Report (field 2 0 bs) (field 8 2 bs) (field 8 10 bs) (seens_in (field 2 18 bs) (drop 20 bs)))) garbled

abbrev pub read_tick : Bytes → Read Call
read_tick bs = cond (length bs == 8) (meant (Tick (field 8 0 bs))) garbled

-- the kinds of call, by their first byte
abbrev pub read_kind_lem : ℕ → Bytes → Read Call
read_kind_lem k bs =
    cond (k == 1) (read_set_lem bs) (cond (k == 2) (read_name EndJob bs) (cond (k == 3) (read_add_lem bs) (cond (k == 4) (read_machine Close bs) (cond (k == 5) (read_machine Reopen bs)
    (cond (k == 6) (read_machine Forget bs) (cond (k == 7) (read_report_lem bs) (cond (k == 8) (read_tick bs) (cond (k == 9) (read_name Show bs) garbled))))))))

abbrev pub read_call : Bytes → Read Call
read_call [] = garbled
read_call (k ∷ bs) = read_kind_lem k bs

abbrev pub kind_of : Call → ℕ
kind_of (SetJob n a c l m) = 1
kind_of (EndJob n) = 2
kind_of (AddMachine k c m t) = 3
kind_of (Close k) = 4
kind_of (Reopen k) = 5
kind_of (Forget k) = 6
kind_of (Report k l n xs) = 7
kind_of (Tick t) = 8
kind_of (Show n) = 9

-- WRITING A CALL

unfoldable pub tag_bytes : List ℕ → Bytes
tag_bytes [] = []
tag_bytes (t ∷ ts) = bytes_of 4 t ++ tag_bytes ts

unfoldable pub seen_bytes : List Seen → Bytes
seen_bytes [] = []
seen_bytes (x ∷ xs) = bytes_of 8 x.id ++ (flag_of x.ready ∷ seen_bytes xs)

abbrev pub spec_bytes : Spec → Bytes
spec_bytes a = bytes_of 4 a.image ++ (bytes_of 4 a.cpu ++ (bytes_of 4 a.mem ++ (length a.tags ∷ (tag_bytes a.tags ++ (flag_of a.apart ∷ [])))))

abbrev pub name_bytes : List ℕ → Bytes
name_bytes n = length n ∷ n

abbrev pub call_bytes : Call → Bytes
call_bytes (SetJob n a c l m) = 1 ∷ (name_bytes n ++ (spec_bytes a ++ (bytes_of 2 c ++ (bytes_of 2 l ++ bytes_of 2 m))))
call_bytes (EndJob n) = 2 ∷ name_bytes n
call_bytes (AddMachine k c m t) = 3 ∷ (bytes_of 2 k ++ (bytes_of 4 c ++ (bytes_of 4 m ++ (length t ∷ tag_bytes t))))
call_bytes (Close k) = 4 ∷ bytes_of 2 k
call_bytes (Reopen k) = 5 ∷ bytes_of 2 k
call_bytes (Forget k) = 6 ∷ bytes_of 2 k
call_bytes (Report k l n xs) = 7 ∷ (bytes_of 2 k ++ (bytes_of 8 l ++ (bytes_of 8 n ++ (bytes_of 2 (length xs) ++ seen_bytes xs))))
call_bytes (Tick t) = 8 ∷ bytes_of 8 t
call_bytes (Show n) = 9 ∷ name_bytes n

-- ANSWERS

-- an answer as it stands on a line: one to a report bears the report's machine and life too
pub data Answer : Type 0 where
  Refused : ℕ → Answer
  Done : Answer
  Runs : (num life number : ℕ) → List Order → Answer
  Shown : List Line → Answer

abbrev pub answer_to : Call → Reply → Answer
answer_to c (No k) = Refused k
answer_to c Yes = Done
answer_to (Report k l i xs) (Run n os) = Runs k l n os
answer_to (SetJob x a c l m) (Run n os) = Runs 0 0 n os
answer_to (EndJob x) (Run n os) = Runs 0 0 n os
answer_to (AddMachine k c m t) (Run n os) = Runs 0 0 n os
answer_to (Close k) (Run n os) = Runs 0 0 n os
answer_to (Reopen k) (Run n os) = Runs 0 0 n os
answer_to (Forget k) (Run n os) = Runs 0 0 n os
answer_to (Tick t) (Run n os) = Runs 0 0 n os
answer_to (Show x) (Run n os) = Runs 0 0 n os
answer_to c (Lines ls) = Shown ls

abbrev pub phase_of : Phase → ℕ
phase_of Waiting = 0
phase_of Told = 1
phase_of Ready = 2
phase_of Ending = 3

unfoldable pub order_bytes : List Order → Bytes
order_bytes [] = []
order_bytes (o ∷ os) = bytes_of 8 o.id ++ (spec_bytes o.spec ++ order_bytes os)

unfoldable pub line_bytes : List Line → Bytes
line_bytes [] = []
line_bytes (l ∷ ls) = bytes_of 8 l.id ++ (bytes_of 4 l.version ++ (phase_of l.phase ∷ (bytes_of 2 l.machine ++ line_bytes ls)))

abbrev pub answer_bytes : Answer → Bytes
answer_bytes (Refused k) = 0 ∷ k ∷ []
answer_bytes Done = 1 ∷ []
answer_bytes (Runs k l n os) = 2 ∷ (bytes_of 2 k ++ (bytes_of 8 l ++ (bytes_of 8 n ++ (bytes_of 2 (length os) ++ order_bytes os))))
answer_bytes (Shown ls) = 3 ∷ (bytes_of 2 (length ls) ++ line_bytes ls)
