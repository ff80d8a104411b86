-- The numbers and names of faults.
use Rattle.std.specs.Prelude.{ℕ, List, codes}
use Rattle.names_distinguished.specs.declared.fault.NameRule.{NameRule}
use Rattle.names_distinguished.specs.declared.fault.NameRule.TheVariants.{NameLayout, RdnRepeat, SetOrder, Text, DnsForm, IpForm, MaskForm, MailForm, UriForm}

abbrev pub name_rule_number : NameRule → ℕ
name_rule_number NameLayout = 11
name_rule_number RdnRepeat = 12
name_rule_number SetOrder = 13
name_rule_number Text = 14
name_rule_number DnsForm = 15
name_rule_number IpForm = 16
name_rule_number MaskForm = 17
name_rule_number MailForm = 18
name_rule_number UriForm = 19

abbrev pub name_rule_name : NameRule → List ℕ
name_rule_name NameLayout = codes "NameLayout"
name_rule_name RdnRepeat = codes "RdnRepeat"
name_rule_name SetOrder = codes "SetOrder"
name_rule_name Text = codes "Text"
name_rule_name DnsForm = codes "DnsForm"
name_rule_name IpForm = codes "IpForm"
name_rule_name MaskForm = codes "MaskForm"
name_rule_name MailForm = codes "MailForm"
name_rule_name UriForm = codes "UriForm"
