use Rattle.tables.proofs.lists.Tables.net.Goals as goal

pub returns-clause-list : goal.returns-clause-list
returns-clause-list c = c.net_list.ensures.list c.args.self.classes.now
