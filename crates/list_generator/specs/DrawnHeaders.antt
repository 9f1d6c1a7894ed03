-- Headers that are drawn: each takes five draws, one for each field.
use Rattle.std.specs.Prelude.{ℕ, zero, suc, ◌+◌, ◌/◌, ◌%◌, ◌==◌, List, [], ◌∷◌, if◌then◌else◌}
use Rattle.razor_limits.specs.declared.limits.TheConstants.{GREATEST_PORT}
use Rattle.list_generator.specs.Draws.{drawn, state_after}
use Rattle.list_generator.specs.DrawnSets.{ten}

-- 10.B.C.D, with B below 8, C below 4 and D below 16
unfoldable pub drawn_address : ℕ → ℕ
drawn_address y = ten (y % 8) (y / 8 % 4) (y / 32 % 16)

-- the port of a service, 1024, the least or the greatest port, or one from 1024 to 1087
unfoldable pub drawn_port : ℕ → ℕ
drawn_port y =
    if y % 8 == 0 then 80
    else (if y % 8 == 1 then 443
    else (if y % 8 == 2 then 53
    else (if y % 8 == 3 then 22
    else (if y % 8 == 4 then 1024
    else (if y % 8 == 5 then 0
    else (if y % 8 == 6 then GREATEST_PORT
    else 1024 + y / 8 % 64))))))

-- ICMP, TCP or UDP
unfoldable pub drawn_protocol : ℕ → ℕ
drawn_protocol y = if y % 4 == 0 then 1 else (if y % 4 == 3 then 17 else 6)

-- source address, destination address, source port, destination port and protocol
abbrev pub drawn_header : ℕ → List ℕ
drawn_header x = drawn_address (drawn 1 x) ∷ drawn_address (drawn 2 x) ∷ drawn 3 x % 65536 ∷ drawn_port (drawn 4 x) ∷ drawn_protocol (drawn 5 x) ∷ []

-- so many headers, from this state on
abbrev pub drawn_headers : ℕ → ℕ → List (List ℕ)
drawn_headers zero x = []
drawn_headers (suc headers) x = drawn_header x ∷ drawn_headers headers (state_after 5 x)

-- the state behind so many rules
abbrev pub state_behind : ℕ → ℕ → ℕ
state_behind zero x = x
state_behind (suc rules) x = state_behind rules (state_after 6 x)

-- the 256 headers that a seed gives behind so many rules
abbrev pub generated_headers : ℕ → ℕ → List (List ℕ)
generated_headers seed rules = drawn_headers 256 (state_behind rules seed)
