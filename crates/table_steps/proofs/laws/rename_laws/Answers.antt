use Rattle.table_steps.proofs.Renamed.{helds, kinds, marks, marks_other, spaces, spares}
use Rattle.table_steps.proofs.laws.rename_laws.Goals as goal

pub returns-clause-spaces : goal.returns-clause-spaces
returns-clause-spaces c = λ P L index key name reply after done. spaces P L index key name reply after done

pub returns-clause-kinds : goal.returns-clause-kinds
returns-clause-kinds c = λ P L index key name reply after done. kinds P L index key name reply after done

pub returns-clause-spares : goal.returns-clause-spares
returns-clause-spares c = λ P L index key name reply after done. spares P L index key name reply after done

pub returns-clause-held : goal.returns-clause-held
returns-clause-held c = λ P L index key name reply after done. helds P L index key name reply after done

pub returns-clause-marks : goal.returns-clause-marks
returns-clause-marks c = λ P L index key name reply after done v. marks P L index key name reply after done v

pub returns-clause-other_marks : goal.returns-clause-other_marks
returns-clause-other_marks c = λ P L index key name reply after done i v other. marks_other P L index key name reply after done i v other
