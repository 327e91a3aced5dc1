use Rattle.table_steps.proofs.Created.{helds, kinds, marks, marks_other, spaces, spare_less, spare_other}
use Rattle.table_steps.proofs.laws.create_laws.Goals as goal

pub returns-clause-spaces : goal.returns-clause-spaces
returns-clause-spaces c = λ P L free a reply after accepts. spaces P L free a reply after accepts

pub returns-clause-kinds : goal.returns-clause-kinds
returns-clause-kinds c = λ P L free a reply after accepts. kinds P L free a reply after accepts

pub returns-clause-held : goal.returns-clause-held
returns-clause-held c = λ P L free a reply after accepts. helds P L free a reply after accepts

pub returns-clause-spares : goal.returns-clause-spares
returns-clause-spares c = λ P L free a reply after accepts x in_r. spare_less P L free a reply after accepts x in_r

pub returns-clause-other_spares : goal.returns-clause-other_spares
returns-clause-other_spares c = λ P L free a reply after accepts m n. spare_other P L free a reply after accepts m n

pub returns-clause-marks : goal.returns-clause-marks
returns-clause-marks c = λ P L free a reply after accepts v. marks P L free a reply after accepts v

pub returns-clause-other_marks : goal.returns-clause-other_marks
returns-clause-other_marks c = λ P L free a reply after accepts i v other. marks_other P L free a reply after accepts i v other
