use Rattle.message_writer.proofs.MessageLaws.{length_of_message, parts_are_message}
use Rattle.message_writer.proofs.length.message_length.Goals as goal

pub returns-clause-length : goal.returns-clause-length
returns-clause-length c = length_of_message c.args.needs c.length_of.result c.length_of.ensures

pub returns-clause-parts : goal.returns-clause-parts
returns-clause-parts c = parts_are_message c.args.needs c.length_of.result c.length_of.ensures
