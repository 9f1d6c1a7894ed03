-- The reads of an input that is read whole.
use Rattle.std.proofs.Common.{ℕ, List, Result, Ok, Err, inl, inr, sym, subst}
use Rattle.std.specs.Prelude.{MatchResult}
use Rattle.razor_base.specs.Headline.Outcomes.{Extends}
use Rattle.razor_base.specs.Headline.Readings.{Reading}
use Rattle.razor_base.specs.Turns.{IsTurnOf, IsWholeTurn}
use Rattle.razor_base.specs.declared.read.ReadError.{ReadError}
use Rattle.razor_base.specs.declared.read.ReadError.TheVariants as reads
use Rattle.razor_core.specs.Calls.{EndsTurnReads}
use Rattle.razor_core.specs.Inputs.{Kind}
use Rattle.razor_core.specs.Taking.{IsFaultOf, IsUnspelled}
use Rattle.razor_core.specs.declared.ending.Ending.{Ending}
use Rattle.razor_core.specs.declared.ending.Ending.TheVariants.{Done, No, BadLine as Bad, TooLong, TooMany, ReadFault, WriteFault, Memory}

-- it couldn't be read whole
fault_ends : (name : List ℕ) (limit : ℕ) (error : ReadError) (ending : Ending) (added : List Reading) → IsFaultOf name limit error ending → IsTurnOf {T = Unit {0}} name (Err error) added → EndsTurnReads name ending added
fault_ends name limit reads.Memory ending added is turn = subst (λ (e : Ending). EndsTurnReads name e added) (sym is) (inr turn)
fault_ends name limit reads.Fault (ReadFault file) added is turn = turn
fault_ends name limit reads.TooLong (TooLong file most) added is turn = turn
fault_ends name limit reads.Fault other added is turn = absurd is
fault_ends name limit reads.TooLong other added is turn = absurd is

pub fault_reads : (name : List ℕ) (limit : ℕ) (error : ReadError) (ending : Ending) (old new : List Reading) → IsFaultOf name limit error ending → Extends old new (IsTurnOf {T = Unit {0}} name (Err error)) → Extends old new (EndsTurnReads name ending)
fault_reads name limit error ending old new is turn = (turn.0, turn.1, fault_ends name limit error ending turn.0 is turn.2)

unspelled_ends : (kind : Kind) (name text : List ℕ) (ending : Ending) (added : List Reading) → IsUnspelled kind name text ending → IsWholeTurn name added → EndsTurnReads name ending added
unspelled_ends kind name text (Done summary) added is turn = absurd is
unspelled_ends kind name text No added is turn = absurd is
unspelled_ends kind name text (Bad file line reason) added is turn = turn
unspelled_ends kind name text (TooLong file most) added is turn = absurd is
unspelled_ends kind name text (TooMany needed limit) added is turn = absurd is
unspelled_ends kind name text (ReadFault file) added is turn = absurd is
unspelled_ends kind name text WriteFault added is turn = absurd is
unspelled_ends kind name text Memory added is turn = inl turn

-- or was, and spells something or doesn't
pub whole_reads : {V : Type 0} (kind : Kind) (name text : List ℕ) (Spells : V → Type 0) (result : Result V Ending) (old new : List Reading) → MatchResult result Spells (λ ending. IsUnspelled kind name text ending) → Extends old new (IsWholeTurn name) →
    Extends old new (λ added. MatchResult result (λ spelled. IsWholeTurn name added) (λ ending. EndsTurnReads name ending added))
whole_reads kind name text Spells (Ok spelled) old new is turn = turn
whole_reads kind name text Spells (Err ending) old new is turn = (turn.0, turn.1, unspelled_ends kind name text ending turn.0 is turn.2)
