-- What the clauses of readers cite most: where a value stands, what a cursor has left, and what a walk gives.
pub use Rattle.asn.specs.Place.{seen_tlv, remaining}
pub use Rattle.asn.specs.Members.{left, members}
pub use Rattle.asn.specs.Walk.{Gives, StepGives, ReadsAs, seen, each}
