use Rattle.std.proofs.Common.{◌≡◌, ◌≤◌, not, ◌++◌, ◌∷◌, drop, length, take, sym, ap, ◌∙◌, arith}
use lib.Signed.{lt_z}
use Rattle.std.proofs.lemmas.List.{length-take-le}
use Rattle.std.proofs.lemmas.List.Sums.{prefix_len-le-length}
use Rattle.rules.specs.declared.auction.Bid.{Bid}
use Rattle.book.proofs.Bids.{entered-at, place_is, turned_in}
use Rattle.book.proofs.bidding.enter.Goals as goal

pub returns : goal.returns
returns c =
    let xs = take c.args.taken c.args.bids.now in
    let long : length xs ≡ c.args.taken = length-take-le c.args.taken c.args.bids.now (omega arith) in
    let place = place_is c.args.bid xs c.args.taken c.first_lower.result c.unwrap_or-place.result long c.first_lower.ensures c.unwrap_or-place.ensures in
    let most = prefix_len-le-length {X = Bid} (λ (y : Bid). not (lt_z y.price c.args.bid.price)) xs in
    let within : c.unwrap_or-place.result ≤ c.args.taken = omega (arith, most, place, long) in
    turned_in c.args.bids.now c.args.taken c.unwrap_or-place.result c.args.bid c.rotate_right.new.self c.requires within
    c.rotate_right.ensures.after
    ∙ ap (λ p. take p xs ++ c.args.bid ∷ drop p xs) place ∙ sym (entered-at c.args.bid xs)
