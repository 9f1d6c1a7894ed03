use Rattle.std.proofs.Common.{length, ◌≡◌, rules}
use Rattle.ternary_words.proofs.Fives.{fit_five, masks_five, masks_below}
use Rattle.ternary_words.proofs.masks.masks.Goals as goal

pub mask-requires : goal.mask-requires
mask-requires c =
    let five : length c.args.prefixes.now ≡ 5 = search rules in
    (fit_five c.args.prefixes.now _ five c.requires).source

pub mask-requires-2 : goal.mask-requires-2
mask-requires-2 c =
    let five : length c.args.prefixes.now ≡ 5 = search rules in
    (fit_five c.args.prefixes.now _ five c.requires).destination

pub mask-requires-3 : goal.mask-requires-3
mask-requires-3 c =
    let five : length c.args.prefixes.now ≡ 5 = search rules in
    (fit_five c.args.prefixes.now _ five c.requires).source_port

pub mask-requires-4 : goal.mask-requires-4
mask-requires-4 c =
    let five : length c.args.prefixes.now ≡ 5 = search rules in
    (fit_five c.args.prefixes.now _ five c.requires).destination_port

pub mask-requires-5 : goal.mask-requires-5
mask-requires-5 c =
    let five : length c.args.prefixes.now ≡ 5 = search rules in
    (fit_five c.args.prefixes.now _ five c.requires).protocol

pub returns-clause-masks : goal.returns-clause-masks
returns-clause-masks c =
    let five : length c.args.prefixes.now ≡ 5 = search rules in
    rw (c.mask.ensures, c.mask-2.ensures, c.mask-3.ensures, c.mask-4.ensures, c.mask-5.ensures) (masks_five c.args.prefixes.now _ five)

pub returns-clause-small : goal.returns-clause-small
returns-clause-small c =
    let five : length c.args.prefixes.now ≡ 5 = search rules in
    masks_below c.args.prefixes.now _ (fit_five c.args.prefixes.now _ five c.requires) _ _ _ _ _ c.mask.ensures c.mask-2.ensures c.mask-3.ensures c.mask-4.ensures c.mask-5.ensures
