pub mod TypeNests
pub mod FormNests
pub mod ExpressionNests
pub mod UnitNests
pub mod VarOrConst
