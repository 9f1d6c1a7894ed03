-- The numbers of a linear congruential generator with the constants of ANSI C's example of rand.
use Rattle.std.specs.Prelude.{ℕ, zero, suc, ◌+◌, ◌*◌, ◌/◌, ◌%◌, ◌^◌}

-- the state after one turn
unfoldable pub next_state : ℕ → ℕ
next_state x = (x * 1103515245 + 12345) % 2 ^ 31

-- the state after so many turns
abbrev pub state_after : ℕ → ℕ → ℕ
state_after zero x = x
state_after (suc turns) x = state_after turns (next_state x)

-- the number that the last of so many turns draws
abbrev pub drawn : ℕ → ℕ → ℕ
drawn turns x = state_after turns x / 256
