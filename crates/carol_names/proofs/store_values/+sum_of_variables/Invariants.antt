use Rattle.carol_names.proofs.store_values.+sum_of_variables.Given as goal

abbrev pub decreases-sum_of_variables : goal.decreases-sum_of_variables
decreases-sum_of_variables l = l.count
