use Rattle.fx_sim.proofs.simulation.put_moment.Goals as goal

pub returns-clause-stands : goal.returns-clause-stands
returns-clause-stands c p list h = (c.step.ensures.moment p list h).stands

pub returns-clause-output : goal.returns-clause-output
returns-clause-output c p list h = (c.step.ensures.moment p list h).output
