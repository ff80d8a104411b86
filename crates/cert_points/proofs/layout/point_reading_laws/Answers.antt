use Rattle.cert_points.proofs.Answered.{names_once, name_once, point_once, points_once}
use Rattle.cert_points.proofs.PointsOfCertificate.{field_once}
use Rattle.cert_points.proofs.layout.point_reading_laws.Goals as goal

pub returns-clause-general_names : goal.returns-clause-general_names
returns-clause-general_names c = names_once

pub returns-clause-point_name : goal.returns-clause-point_name
returns-clause-point_name c = name_once

pub returns-clause-point : goal.returns-clause-point
returns-clause-point c = point_once

pub returns-clause-points : goal.returns-clause-points
returns-clause-points c = points_once

pub returns-clause-certificate : goal.returns-clause-certificate
returns-clause-certificate c = field_once points_once
