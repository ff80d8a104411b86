-- General names (RFC 5280, 4.2.1.6) and their forms.
use Rattle.names.specs.declared.general.General.{General}
use Rattle.names.specs.declared.general.Form.{Form}
use Rattle.names.specs.declared.general.General.TheVariants as G
use Rattle.names.specs.declared.general.Form.TheVariants as F

abbrev pub form_of_name : General → Form
form_of_name (G.Directory x) = F.Directory
form_of_name (G.Dns x) = F.Dns
form_of_name (G.Ip x) = F.Ip
form_of_name (G.Other n x) = F.Other n

-- the forms whose constraints are processed
abbrev pub IsProcessed : Form → Type 0
IsProcessed F.Directory = Unit {0}
IsProcessed F.Dns = Unit {0}
IsProcessed F.Ip = Unit {0}
IsProcessed (F.Other n) = ⊥
