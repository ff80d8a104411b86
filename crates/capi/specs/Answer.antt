-- What is answered of a text: 0, or the number of the first fault, and its place.
use Rattle.std.specs.Prelude.{◌≡◌, ℕ, List}
use Rattle.der.specs.declared.fault.Rule.{Rule}
use Rattle.der.specs.declared.fault.Fault.TheVariants.{Refused}
use Rattle.der.specs.Fault.{rule_number}
use Rattle.der.specs.FirstFault.{IsFirstFault}
use Rattle.capi.specs.declared.answer.Answer.{Answer}

-- the answer is the number of the rule that is broken first, and the place
pub record TellsFault (text : List ℕ) (answer : Answer) : Type 0 where
  pub rule : Rule
  pub number : answer.fault ≡ rule_number rule
  pub first : IsFirstFault text (Refused rule answer.offset)
