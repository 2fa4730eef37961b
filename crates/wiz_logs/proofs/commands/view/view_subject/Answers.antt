use Rattle.wiz_logs.proofs.commands.view.view_subject.Goals as goal

pub replay_text-requires-clause-program : goal.replay_text-requires-clause-program
replay_text-requires-clause-program g c = rw c.used_text-text.ensures c.requires.program

pub viewed-requires-clause-program : goal.viewed-requires-clause-program
viewed-requires-clause-program g c = rw c.used_text-text.ensures c.requires.program
