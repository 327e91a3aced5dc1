use Rattle.table_steps.proofs.Released.{fewer, kinds, marks, more_spare, none_left, others_stay, released-stands, spaces, spares}
use Rattle.table_steps.proofs.laws.release_laws.Goals as goal

pub returns-clause-none_left : goal.returns-clause-none_left
returns-clause-none_left c = λ P L dimm u reply after done. none_left P L dimm u reply after done

pub returns-clause-others_stay : goal.returns-clause-others_stay
returns-clause-others_stay c = λ P L dimm u reply after done m p fresh other. others_stay P L dimm u reply after done m p fresh other

pub returns-clause-fewer : goal.returns-clause-fewer
returns-clause-fewer c = λ P L dimm u reply after done m p. fewer P L dimm u reply after done m p

pub returns-clause-spares : goal.returns-clause-spares
returns-clause-spares c = λ P L dimm u reply after done. spares P L dimm u reply after done

pub returns-clause-other_spares : goal.returns-clause-other_spares
returns-clause-other_spares c = λ P L dimm u reply after done m. more_spare P L dimm u reply after done m

pub returns-clause-spaces : goal.returns-clause-spaces
returns-clause-spaces c = λ P L dimm u reply after done. spaces P L dimm u reply after done

pub returns-clause-kinds : goal.returns-clause-kinds
returns-clause-kinds c = λ P L dimm u reply after done. kinds P L dimm u reply after done

pub returns-clause-marks : goal.returns-clause-marks
returns-clause-marks c = λ P L dimm u reply after done. marks P L dimm u reply after done

pub returns-clause-stands : goal.returns-clause-stands
returns-clause-stands c = λ P L M dimm u disjoint bounded release. released-stands P disjoint L M bounded dimm u release
