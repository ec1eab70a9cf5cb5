-- `Headed::unused_ok`: the words behind the rows and behind the messages. Assumes nothing.
use Rattle.wellformed.specs.Laws.{unused_law}
use Rattle.wellformed.proofs.content.Headed.unused_ok.Goals as goal

pub returns : goal.returns
returns c =
    let a = c.args in
    let r = a.self.now in
    unused_law r.words.now r.nodes r.messages r.nodes_are r.messages_are r.nodes_few r.messages_few c.all_zero.result c.all_zero-2.result c.all_zero.ensures c.all_zero-2.ensures
