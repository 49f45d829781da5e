pub mod TestOrder
