use Rattle.redundancy_laws.proofs.Kept.{sifted-stays, so-far-stays, made-stays, below-stays, pairs-stay, nodes-stay, cover-stays, union-stays}
use Rattle.redundancy_laws.proofs.laws.growth.Goals as goal

pub returns : goal.returns
returns c = record { sifted = sifted-stays; so_far = so-far-stays; made = made-stays; below = below-stays; pairs = pairs-stay; numbers = nodes-stay; cover = cover-stays; union = union-stays }
