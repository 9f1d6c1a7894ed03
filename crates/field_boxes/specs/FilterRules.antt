-- The rules of the code that a filter list can spell.
use Rattle.std.specs.Prelude.{[], slice_index_or}
use Rattle.field_boxes.specs.declared.rule.Rule.{Rule}
use Rattle.field_boxes.specs.Ports.{ArePorts}
use Rattle.field_boxes.specs.Prefixes.{IsPrefix}
use Rattle.field_boxes.specs.Protocols.{IsProtocol}

-- addresses that agree in their first bits, sets of ports, and one protocol or all of them
pub record IsFilterRule (rule : Rule) : Type 0 where
  pub source : IsPrefix 32 rule.source
  pub destination : IsPrefix 32 rule.destination
  pub source_ports : ∥ ArePorts (slice_index_or rule.ports 0 []) ∥₁
  pub destination_ports : ∥ ArePorts (slice_index_or rule.ports 1 []) ∥₁
  pub protocol : IsProtocol rule.protocol
