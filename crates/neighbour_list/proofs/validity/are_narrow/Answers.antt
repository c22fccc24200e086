use Rattle.neighbour_list.proofs.validity.are_narrow.Goals as goal

pub returns : goal.returns
returns c = λ t. record { box = c.united.result; narrow = c.is_narrow.ensures t; first = c.united.ensures.first; second = c.united.ensures.second }
