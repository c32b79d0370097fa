pub mod LoopDepth
pub mod Nothing
pub mod VarOrConst
