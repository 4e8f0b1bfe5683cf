-- Where things stand in the words: first words, widths and numbers of rows.
-- Assumes nothing.
use Rattle.std.specs.Prelude.{ℕ, ◌+◌, ◌*◌, ◌≤◌}

-- home: word 0 is the last task number given, words 1 to 3 say how many rows of jobs, machines and tasks are in use; then the rows

-- 256 rows of 26 words
abbrev pub job_base : ℕ
job_base = 8

-- 256 rows of 24 words
abbrev pub machine_base : ℕ
machine_base = 6664

-- 2,048 rows of 27 words
abbrev pub task_base : ℕ
task_base = 12808

abbrev pub home_words_lem : ℕ
home_words_lem = 68104

-- live: when each machine was heard, then which tasks are ready
abbrev pub ready_base : ℕ
ready_base = 256

abbrev pub live_words : ℕ
live_words = 2304

-- two copies of home, and a word that says which holds, fit into the kept words
abbrev pub TwiceFits : Type 0
TwiceFits = 2 * home_words_lem + 1 ≤ 262144

-- and so they do with 19 words more for each job and task (eight named wants, a rank, a cellar, a batch), 16 for each machine (eight named amounts), and 4,096 changes of three words
abbrev pub RoomToGrow : Type 0
RoomToGrow = 2 * (home_words_lem + (2048 + 256) * 19 + 256 * 16 + 4096 * 3) + 1 ≤ 262144
