use Rattle.answers.proofs.offices.tell_by.Goals as goal

pub returns-in-Time : goal.returns-in-Time
returns-in-Time g c = rw c.in-Time.is c.tell_lines.ensures

pub returns-in-Grade : goal.returns-in-Grade
returns-in-Grade g c = rw c.in-Grade.is c.tell_lines-in-Grade.ensures

pub returns-in-Both : goal.returns-in-Both
returns-in-Both g c = rw c.in-Both.is c.tell_lines-in-Both.ensures
