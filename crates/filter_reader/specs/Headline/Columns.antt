-- The columns of a rule line, in the forms of the ClassBench filter format (Taylor and Turner): each takes the first
-- of the tokens and gives what they spell and the tokens behind them, or the first reason why they are bad.
use Rattle.std.specs.Prelude.{ℕ, ◌==◌, Bool, true, false, not, List, [], ◌∷◌, Option, Some, None, Result, Ok, Err, ok_or, if◌then◌else◌}
use Rattle.std.specs.List.{list_any}
use Rattle.std.specs.Str.{bytes_eq}
use Rattle.field_boxes.specs.Headline.Classifier.{Interval}
use Rattle.field_boxes.specs.Headline.Names.{has_word_form, miss}
use Rattle.filter_reader.specs.declared.reason.Reason.{Reason}
use Rattle.filter_reader.specs.declared.reason.Reason.TheVariants.{NoAt, Address, Length, PortForm, ProtocolForm, ProtocolMask, FlagsForm, DecisionForm, Reserved, Extra}
use Rattle.text_lines.specs.Headline.Fallible.{◌>>=◌}
use Rattle.text_lines.specs.Headline.Cuts.{parts_at}
use Rattle.filter_reader.specs.Headline.Tokens.{first_token}
use Rattle.filter_reader.specs.Headline.Addresses.{address_of, length_of, agreeing}
use Rattle.filter_reader.specs.Headline.Ports.{ranges_of, ports_of}
use Rattle.filter_reader.specs.Headline.Masks.{value_and_mask}

-- what stands behind '@'
unfoldable pub behind_at : List ℕ → Option (List ℕ)
behind_at [] = None
behind_at (b ∷ text) = if b == 64 then Some text else None

-- an address, '/' and a length: the addresses that agree with it in so many first bits
unfoldable pub prefix_set : List ℕ → Result Interval Reason
prefix_set text = do
  address ← ok_or (address_of (parts_at 47 text).0) Address
  len ← ok_or (length_of (parts_at 47 text).1) Length
  Ok (agreeing address len)

-- '@', and then as a destination
unfoldable pub source_column : List (List ℕ) → Result (Interval × List (List ℕ)) Reason
source_column tokens = do
  token ← ok_or (first_token tokens) NoAt
  text ← ok_or (behind_at token.0) NoAt
  set ← prefix_set text
  Ok (set, token.1)

-- the addresses of the first token
unfoldable pub destination_column : List (List ℕ) → Result (Interval × List (List ℕ)) Reason
destination_column tokens = do
  token ← ok_or (first_token tokens) Address
  set ← prefix_set token.0
  Ok (set, token.1)

-- ranges of ports
unfoldable pub port_column : List (List ℕ) → Result (List Interval × List (List ℕ)) Reason
port_column tokens = do
  column ← ok_or (ranges_of tokens) PortForm
  ports ← ports_of column.0
  Ok (ports, column.1)

-- a mask of 255 leaves the one value, and a mask of 0 every protocol
abbrev pub under_mask : ℕ → ℕ → Result Interval Reason
under_mask value mask =
    if mask == 255 then Ok (record { lo = value; hi = value })
    else (if mask == 0 then Ok (record { lo = 0; hi = 255 }) else Err ProtocolMask)

-- a value and its mask
unfoldable pub protocol_column : List (List ℕ) → Result (Interval × List (List ℕ)) Reason
protocol_column tokens = do
  token ← ok_or (first_token tokens) ProtocolForm
  masked ← ok_or (value_and_mask 2 255 token.0) ProtocolForm
  set ← under_mask masked.0 masked.1
  Ok (set, token.1)

-- whether a flag counts: the token is a value and its mask, and the mask isn't 0
unfoldable pub flag_of : List ℕ → Result Bool Reason
flag_of token = do
  masked ← ok_or (value_and_mask 4 65535 token) FlagsForm
  Ok (not (masked.1 == 0))

-- flags may be left out: a token is this column exactly where it has '/'
unfoldable pub flags_column : List (List ℕ) → Result (Bool × List (List ℕ)) Reason
flags_column [] = Ok (false, [])
flags_column (token ∷ tokens) =
    if list_any (λ b. b == 47) token then (flag_of token >>= (λ flag. Ok (flag, tokens))) else Ok (false, token ∷ tokens)

-- a word of the right form, but not the word for no decision
unfoldable pub decision_of : List ℕ → Result (List ℕ) Reason
decision_of token =
    if not (has_word_form token) then Err DecisionForm
    else (if bytes_eq token miss then Err Reserved else Ok token)

-- a decision may be left out
unfoldable pub decision_column : List (List ℕ) → Result (Option (List ℕ) × List (List ℕ)) Reason
decision_column [] = Ok (None, [])
decision_column (token ∷ tokens) = decision_of token >>= (λ word. Ok (Some word, tokens))

-- no token is left
abbrev pub end_of_line : List (List ℕ) → Result Bool Reason
end_of_line [] = Ok true
end_of_line (token ∷ tokens) = Err Extra
