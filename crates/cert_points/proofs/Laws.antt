-- The laws that other crates may cite.
pub use Rattle.cert_points.proofs.ListedNames.{are_names, names_are}
pub use Rattle.cert_points.proofs.RelativeParts.{is_relative, relative_is}
pub use Rattle.cert_points.proofs.ReasonBits.{are_reasons, reasons_are}
pub use Rattle.cert_points.proofs.ChosenNames.{is_point_name, point_name_is}
pub use Rattle.cert_points.proofs.OnePoint.{is_point, point_is}
pub use Rattle.cert_points.proofs.ManyPoints.{are_points, points_are}
pub use Rattle.cert_points.proofs.CompletePoints.{complete_names_are_exact}
pub use Rattle.cert_points.proofs.PointsOfCertificate.{points_are_of_extension}
pub use Rattle.cert_points.proofs.Answered.{names_once, name_once, point_once, points_once}
pub use Rattle.cert_points.proofs.PointFaults.{point_fault_is_of_value, name_fault_is_within}
