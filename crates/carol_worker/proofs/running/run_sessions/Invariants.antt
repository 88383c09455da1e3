use Rattle.carol_worker.proofs.running.run_sessions.Given as goal

abbrev pub ghosts-run_from : goal.ghosts-run_from
ghosts-run_from g a = record { house = a.house }
