use Rattle.items.proofs.Pasting.{copied_over}
use Rattle.items.proofs.line.put_bytes.Goals as goal

pub returns : goal.returns
returns c = copied_over c.args.out.now c.args.at c.args.bytes.now c.copy_from_slice.new.self c.requires c.copy_from_slice.ensures.after
