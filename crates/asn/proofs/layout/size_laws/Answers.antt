use Rattle.asn.proofs.Sizes.{encodes, encodable, length-encoding, length-encodings}
use Rattle.asn.proofs.layout.size_laws.Goals as goal

pub returns-clause-value : goal.returns-clause-value
returns-clause-value c = λ depth text value encodes. length-encoding value depth text encodes

pub returns-clause-values : goal.returns-clause-values
returns-clause-values c = λ depth text values encodes. length-encodings values depth text encodes

pub returns-clause-octets : goal.returns-clause-octets
returns-clause-octets c = λ depth text value. (λ e. encodable value depth text e, λ p. rw p.1 (encodes value depth p.0))
