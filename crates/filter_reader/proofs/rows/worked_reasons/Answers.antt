use Rattle.std.proofs.Common.{refl}
use Rattle.text_lines.specs.Headline.Numbers.{number_within, short_number}
use Rattle.filter_reader.specs.Headline.Addresses.{address_of, length_of}
use Rattle.filter_reader.specs.Headline.Masks.{hex_number, value_and_mask}
use Rattle.filter_reader.specs.Headline.Ports.{range_of, ports_of}
use Rattle.filter_reader.specs.Headline.Columns.{behind_at, prefix_set, source_column, destination_column, port_column, protocol_column, flag_of, flags_column, decision_of, decision_column}
use Rattle.filter_reader.specs.Headline.RuleLine.{rule_of_tokens, rule_line}
use Rattle.filter_reader.proofs.rows.worked_reasons.Goals as goal

pub returns-clause-lines : goal.returns-clause-lines
unfolding number_within short_number address_of length_of hex_number value_and_mask range_of ports_of behind_at prefix_set source_column destination_column port_column protocol_column flag_of flags_column decision_of decision_column rule_of_tokens rule_line
returns-clause-lines c = refl

pub returns-clause-too_many : goal.returns-clause-too_many
unfolding number_within short_number address_of length_of hex_number value_and_mask range_of ports_of behind_at prefix_set source_column destination_column port_column protocol_column flag_of flags_column decision_of decision_column rule_of_tokens rule_line
returns-clause-too_many c = refl
