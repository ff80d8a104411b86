use Rattle.cert_points.proofs.ListedNames.{are_names, names_are}
use Rattle.cert_points.proofs.RelativeParts.{is_relative, relative_is}
use Rattle.cert_points.proofs.ReasonBits.{are_reasons, reasons_are}
use Rattle.cert_points.proofs.ChosenNames.{is_point_name, point_name_is}
use Rattle.cert_points.proofs.OnePoint.{is_point, point_is}
use Rattle.cert_points.proofs.ManyPoints.{are_points, points_are}
use Rattle.cert_points.proofs.CompletePoints.{complete_names_are_exact}
use Rattle.cert_points.proofs.LimitedPoints.{limited_names_are_exact}
use Rattle.cert_points.proofs.PointsOfCertificate.{points_are_of_extension}
use Rattle.cert_points.proofs.PointFaults.{point_fault_is_of_value, name_fault_is_within}
use Rattle.cert_points.proofs.layout.point_layout_laws.Goals as goal

pub returns-clause-general_names : goal.returns-clause-general_names
returns-clause-general_names c = λ value names. (are_names value names, names_are value names)

pub returns-clause-relative_name : goal.returns-clause-relative_name
returns-clause-relative_name c = λ value. (is_relative value, relative_is value)

pub returns-clause-point_name : goal.returns-clause-point_name
returns-clause-point_name c = λ value name. (is_point_name value name, point_name_is value name)

pub returns-clause-reasons : goal.returns-clause-reasons
returns-clause-reasons c = λ value bits. (are_reasons value bits, reasons_are value bits)

pub returns-clause-point : goal.returns-clause-point
returns-clause-point c = λ value point. (is_point value point, point_is value point)

pub returns-clause-points : goal.returns-clause-points
returns-clause-points c = λ octet_string points fits. (are_points octet_string points fits, points_are octet_string points)

pub returns-clause-certificate : goal.returns-clause-certificate
returns-clause-certificate c = points_are_of_extension

pub returns-clause-complete_names : goal.returns-clause-complete_names
returns-clause-complete_names c = complete_names_are_exact

pub returns-clause-limited_names : goal.returns-clause-limited_names
returns-clause-limited_names c = limited_names_are_exact

pub returns-clause-fault : goal.returns-clause-fault
returns-clause-fault c = point_fault_is_of_value c.offset_laws.ensures.general

pub returns-clause-name_fault : goal.returns-clause-name_fault
returns-clause-name_fault c = name_fault_is_within c.offset_laws.ensures.general
