-- What a number that is drawn stands for in each column of a rule.
use Rattle.std.specs.Prelude.{ℕ, ◌+◌, ◌*◌, ◌/◌, ◌%◌, ◌^◌, ◌==◌, List, codes, if◌then◌else◌}
use Rattle.razor_limits.specs.declared.limits.TheConstants.{GREATEST_PORT}
use Rattle.field_boxes.specs.Headline.Classifier.{Interval}
use Rattle.field_boxes.specs.Prefix.{prefix_interval}
use Rattle.field_boxes.specs.declared.prefix.Prefix.{Prefix}

-- the address 10.b.c.d
abbrev pub ten : ℕ → ℕ → ℕ → ℕ
ten b c d = 10 * 2 ^ 24 + b * 2 ^ 16 + c * 2 ^ 8 + d

abbrev pub prefix : ℕ → ℕ → Prefix
prefix value len = record { value = value; len = len }

-- 0.0.0.0/0, 10.B.0.0/16, 10.B.C.0/24 or 10.B.C.D/32, with B below 8, C below 4 and D below 16
unfoldable pub drawn_prefix : ℕ → Prefix
drawn_prefix y =
    if y % 4 == 0 then prefix 0 0
    else (if y % 4 == 1 then prefix (ten (y / 4 % 8) 0 0) 16
    else (if y % 4 == 2 then prefix (ten (y / 4 % 8) (y / 32 % 4) 0) 24
    else prefix (ten (y / 4 % 8) (y / 32 % 4) (y / 128 % 16)) 32))

-- the addresses of that prefix
abbrev pub addresses : ℕ → Interval
addresses y = prefix_interval 32 (drawn_prefix y)

abbrev pub from_to : ℕ → ℕ → Interval
from_to lo hi = record { lo = lo; hi = hi }

-- every port, or the ports from 1024 on
unfoldable pub source_ports : ℕ → Interval
source_ports y = if y % 4 == 3 then from_to 1024 GREATEST_PORT else from_to 0 GREATEST_PORT

-- every port, a port of a service, those from 1024 on, those from 1 to 65534, or one port from 1024 to 1087
unfoldable pub destination_ports : ℕ → Interval
destination_ports y =
    if y % 8 == 0 then from_to 0 GREATEST_PORT
    else (if y % 8 == 1 then from_to 80 80
    else (if y % 8 == 2 then from_to 443 443
    else (if y % 8 == 3 then from_to 53 53
    else (if y % 8 == 4 then from_to 22 22
    else (if y % 8 == 5 then from_to 1024 GREATEST_PORT
    else (if y % 8 == 6 then from_to 1 65534
    else from_to (1024 + y / 8 % 64) (1024 + y / 8 % 64)))))))

-- every protocol, TCP or UDP
unfoldable pub protocols : ℕ → Interval
protocols y = if y % 4 == 0 then from_to 0 255 else (if y % 4 == 3 then from_to 17 17 else from_to 6 6)

unfoldable pub decision : ℕ → List ℕ
decision y = if y % 3 == 0 then codes "accept" else (if y % 3 == 1 then codes "deny" else codes "log")
