-- The laws that other crates may cite.
pub use Rattle.asn.proofs.Walks.{bind_ok, ok_is, check_ok, check_again, is_a_ok, is_a_again, Takes, required_ok, required_again, TakesNext, next_or_ok, next_or_again, TakesOneOf, choice_ok, choice_again, ended_ok, ended_again, any_ok, any_again, TakesOptional, optional_is, optional_there, optional_absent, some_ok, some_again, each_ok, each_again, each_none, each_refused, each_more, each_next}
pub use Rattle.asn.proofs.TimeWalks.{seconds_ok, seconds_are, TakesTime, time_ok, time_again, time_tag, as_time, of_time}
pub use Rattle.asn.proofs.FlagWalks.{TakesDefaultFalse, default_false_ok, default_false_again, as_default_false, of_default_false}
pub use Rattle.asn.proofs.TimeReading.{time_of, seconds_again}
pub use Rattle.asn.proofs.Layouts.{of_primitive, of_constructed, as_primitive, as_constructed, of_more, as_more, of_none, as_none, of_at_most_one, as_at_most_one}
pub use Rattle.asn.proofs.OutermostLaws.{first_fault_within, nested_ok, nested_again, outermost_ok, outermost_again}
pub use Rattle.asn.proofs.Sizes.{encodes, encodable, length-encoding, length-encodings, length-octets_of_all}
pub use Rattle.asn.proofs.MemberLemmas.{holds, are_members, contents_held}
pub use Rattle.asn.proofs.PartLemmas.{contents_part, members_are_parts}
pub use Rattle.asn.proofs.EncodedParts.{IsEncodedPart, AllParts, members_stand, contents_stand}
pub use Rattle.asn.proofs.PlaceSizes.{values_count, values_short, members_count, members_short, body_short}
pub use Rattle.asn.proofs.PlaceOrder.{values_before, members_before}
pub use Rattle.asn.proofs.SameOctets.{values_same, members_same}
pub use Rattle.asn.proofs.ListWalks.{as_each, of_each, as_list, of_list, octets_are}
pub use Rattle.asn.proofs.OctetParts.{members_octets, body_octets, inside_octets}
pub use Rattle.asn.proofs.IntegerLemmas.{value_of_positive, binary_value-zero_first, first_of_positive, long_magnitude}
