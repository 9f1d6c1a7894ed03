-- The nodes of the code as nodes of a diagram.
use Rattle.node_store.specs.declared.node.Node as code
use Rattle.node_store.specs.declared.node.Node.TheVariants as variant
use Rattle.node_store.specs.Diagram.{Node}
use Rattle.node_store.specs.Diagram.Node.{Leaf, Inner}

abbrev pub node_of : code.Node → Node
node_of (variant.Leaf decision) = Leaf decision
node_of (variant.Inner level edges) = Inner level edges.items
