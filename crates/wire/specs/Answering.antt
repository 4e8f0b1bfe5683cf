-- What a reader of answers finds.
-- Assumes nothing.
use Rattle.std.specs.Prelude.{◌≡◌, ℕ, ◌+◌, ◌*◌, ◌≤◌, true, false, List, length, vec_items, nat_le, Some, None, Option, Ok, Err, Result, Vec}
use Rattle.std.specs.declared.alloc.Global.{Global}
use Rattle.model.specs.Calls as m
use Rattle.model.specs.Wire.{Bytes, Read, garbled, meant, field, byte_at, Answer, answer_bytes}
use Rattle.model.specs.Answers.{tags_at, order_in, is_order_in, orders_in_lem, are_orders_in, phase_in, lines_in, phases_in, read_answer_lem}
use Rattle.model.specs.Lines.{framed, tag_in, call_in}
use Rattle.wire.specs.declared.reply.Order.{Order}
use Rattle.wire.specs.declared.reply.Phase.{Phase}
use Rattle.wire.specs.declared.reply.Shown.{Shown}
use Rattle.wire.specs.declared.reply.Answered.{Answered}
use Rattle.wire.specs.declared.unread.Unread.{Unread}
use Rattle.wire.specs.declared.unread.Unread.TheVariants.{NoAnswer, NoMemory}
use Rattle.wire.specs.Replies.{order_of, orders_of, phase_of, shown_of, lines_of, reply_of}

-- the order at the front, and how far it goes
pub record OrderRead (bs : Bytes) (o : Order) : Type 0 where
  pub fits : is_order_in bs ≡ true
  pub value : order_of o ≡ order_in bs
  pub count : o.spec.count ≡ tags_at bs
  pub within : 22 + 4 * o.spec.count ≤ length bs

pub record OrdersRead (n : ℕ) (bs : Bytes) (os : List Order) : Type 0 where
  pub fits : are_orders_in n bs ≡ true
  pub value : orders_of os ≡ orders_in_lem n bs

abbrev pub OrdersAs : ℕ → Bytes → Result (Vec Order Global) Unread → Type 0
OrdersAs n bs (Ok v) = OrdersRead n bs (vec_items v)
OrdersAs n bs (Err NoAnswer) = are_orders_in n bs ≡ false
OrdersAs n bs (Err NoMemory) = Unit {0}

-- a phase by its number
abbrev pub PhaseAs : ℕ → Option Phase → Type 0
PhaseAs n None = nat_le n 3 ≡ false
PhaseAs n (Some p) = (nat_le n 3 ≡ true) × (phase_of p ≡ phase_in n)

-- the line at the front of a showing
abbrev pub line_in : Bytes → m.Line
line_in bs = record { id = field 8 0 bs; version = field 4 8 bs; phase = phase_in (byte_at 12 bs); machine = field 2 13 bs }

abbrev pub ShownAs : Bytes → Option Shown → Type 0
ShownAs bs None = nat_le (byte_at 12 bs) 3 ≡ false
ShownAs bs (Some l) = (nat_le (byte_at 12 bs) 3 ≡ true) × (shown_of l ≡ line_in bs)

abbrev pub LinesAs : ℕ → Bytes → Result (Vec Shown Global) Unread → Type 0
LinesAs n bs (Ok v) = (phases_in n bs ≡ true) × (lines_of (vec_items v) ≡ lines_in n bs)
LinesAs n bs (Err NoAnswer) = phases_in n bs ≡ false
LinesAs n bs (Err NoMemory) = Unit {0}

-- what was read is what the bytes say, by what it stands for; they say nothing; or, for want of memory, nothing is known
abbrev pub SaysAs : {A : Type 0} → (A → Answer) → Read Answer → Result A Unread → Type 0
SaysAs f x (Ok a) = x ≡ meant (f a)
SaysAs f x (Err NoAnswer) = x ≡ garbled
SaysAs f x (Err NoMemory) = Unit {0}

-- what a line says: an answer and its tag, and it is the one line that says so
pub record SaysAnswer (line : Bytes) (a : Answered) : Type 0 where
  pub says : read_answer_lem (call_in line) ≡ meant (reply_of a.reply)
  pub tag : a.tag ≡ tag_in line
  pub again : framed a.tag (answer_bytes (reply_of a.reply)) ≡ line

abbrev pub AnsweredAs : Bytes → Result Answered Unread → Type 0
AnsweredAs line (Ok a) = SaysAnswer line a
AnsweredAs line (Err NoAnswer) = read_answer_lem (call_in line) ≡ garbled
AnsweredAs line (Err NoMemory) = Unit {0}
