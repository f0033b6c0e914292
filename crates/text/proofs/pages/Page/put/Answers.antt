use Rattle.std.proofs.Common.{◌≡◌, ◌∙◌, ◌++◌, take, arith, length-take}
use Rattle.text.proofs.Appending.{bytes_put}
use Rattle.text.proofs.pages.Page.put.Goals as goal

pub returns : goal.returns
returns c =
    let xs = c.args.self.now.bytes.items in
    let bs = c.args.bytes.now in
    let room = c.min-room.result in
    let left = c.remaining_capacity.ensures in
    let least = c.min-room.ensures in
    let fits = length-take room bs in
    let variant = c.try_extend_from_slice.ensures.variant in
    let ok = c.try_extend_from_slice.ensures.ok in
    let grown : c.try_extend_from_slice.new.self.items ≡ xs ++ take room bs = grind arith in
    record { grown = grown ∙ bytes_put xs bs room (omega arith) (omega arith) }
