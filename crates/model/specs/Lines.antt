-- What a line of bytes is answered with, and what it leaves: the meaning of the herd, said of lines.
-- Assumes nothing.
use Rattle.std.specs.Prelude.{◌≡◌, ℕ, ◌+◌, Bool, true, false, cond, not, ◌&&◌, ◌||◌, [], ◌∷◌, ◌++◌, length, drop, ◌==◌, nat_lt}
use Rattle.model.specs.State.{State, blank}
use Rattle.model.specs.Calls.{Call, Reply, does, down}
use Rattle.model.specs.Memory.{Meant}
use Rattle.model.specs.Promise.{Answers}
use Rattle.model.specs.Wire.{Bytes, Read, garbled, meant, bytes_of, field, read_call, kind_of, Answer, Refused, answer_to, answer_bytes}

-- THE FRAME: the length of the rest (4 bytes), a tag that the answer bears again (4), and the call or the answer

abbrev pub framed : ℕ → Bytes → Bytes
framed tag body = bytes_of 4 (4 + length body) ++ (bytes_of 4 tag ++ body)

abbrev pub tag_in : Bytes → ℕ
tag_in line = cond (nat_lt (length line) 8) 0 (field 4 4 line)

-- where the frame is short, or its length is not that of the rest, there is no call in it: no byte of one
abbrev pub call_in : Bytes → Bytes
call_in line = cond (nat_lt (length line) 8) [] (cond (field 4 0 line + 4 == length line) (drop 8 line) [])

-- THE ORDER OF REFUSALS, for the kinds of call that are built: 12 for a known kind that isn't, then 10 before a time was told (but for the call that tells it), then 1 for bytes that are no call, then what the call itself says

abbrev pub kind_in : Bytes → ℕ
kind_in [] = 0
kind_in (k ∷ bs) = k

abbrev pub is_known : ℕ → Bool
is_known k = nat_lt 0 k && nat_lt k 10

pub record Said : Type 0 where
  pub answer : Answer
  pub state : State

abbrev pub refuses : ℕ → State → Said
refuses k s = record { answer = Refused k; state = s }

abbrev pub call_says : Read Call → State → Said
call_says garbled s = refuses 1 s
call_says (meant c) s = record { answer = answer_to c (does c s).reply; state = (does c s).state }

abbrev pub bytes_say : (ℕ → Bool) → Bytes → State → Said
bytes_say built bs s = cond (is_known (kind_in bs) && not (built (kind_in bs))) (refuses 12 s) (cond (s.now == 0 && not (kind_in bs == 8)) (refuses 10 s) (call_says (read_call bs) s))

-- A LINE

abbrev pub answer_line : (ℕ → Bool) → Bytes → State → Bytes
answer_line built line s = framed (tag_in line) (answer_bytes (bytes_say built (call_in line) s).answer)

abbrev pub line_leaves : (ℕ → Bool) → Bytes → State → State
line_leaves built line s = (bytes_say built (call_in line) s).state

abbrev pub herd_on_lines : (ℕ → Bool) → Meant Bytes Bytes
herd_on_lines built = record { State = State; start = blank; May = λ line s r t. (r ≡ answer_line built line s) × (t ≡ line_leaves built line s); dark = down }

-- which kinds are built: none at first, then those of the core calls, then all
abbrev pub no_kind : ℕ → Bool
no_kind k = false

abbrev pub core_kind : ℕ → Bool
core_kind k = k == 1 || k == 3 || k == 7 || k == 8 || k == 9

abbrev pub every_kind : ℕ → Bool
every_kind k = true

-- THE LAW ABOVE IT: bytes that are a call are answered as the call means, where its kind is built, and by 12 otherwise
abbrev pub LinesSaySo : Type 0
LinesSaySo =
    (built : ℕ → Bool) (bs : Bytes) (c : Call) (s : State) → read_call bs ≡ meant c → (r : Reply) × Answers (λ x. built (kind_of x)) c s r (bytes_say built bs s).state × ((bytes_say built bs s).answer ≡ answer_to c r)

-- and bytes that are none change nothing, whatever they are
abbrev pub NoCallNoChange : Type 0
NoCallNoChange = (built : ℕ → Bool) (bs : Bytes) (s : State) → read_call bs ≡ garbled → (bytes_say built bs s).state ≡ s
