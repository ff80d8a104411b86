use Rattle.asn.specs.Place.{body_place}
use Rattle.asn.proofs.MemberLemmas.{holds}
use Rattle.asn.proofs.PartLemmas.{members_are_parts, contents_part}
use Rattle.asn.proofs.layout.member_laws.Goals as goal

pub returns-clause-hold : goal.returns-clause-hold
returns-clause-hold c = holds

pub returns-clause-members : goal.returns-clause-members
returns-clause-members c = members_are_parts

pub returns-clause-contents : goal.returns-clause-contents
unfolding body_place
returns-clause-contents c = λ source depth value place part encodes. contents_part source depth place.at place.octets value encodes part
