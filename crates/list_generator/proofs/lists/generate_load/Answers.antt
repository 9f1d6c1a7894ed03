use Rattle.std.proofs.Common.{ap, ◌∙◌}
use Rattle.list_generator.specs.DrawnHeaders.{drawn_headers}
use Rattle.list_generator.proofs.lists.generate_load.Goals as goal

pub returns : goal.returns
returns c = record {
  list = c.in_ok-list.ensures.list;
  headers = c.in_ok-headers.ensures ∙ ap (drawn_headers 256) c.in_ok-list.ensures.state;
}
